-- The first fault among places that ascend: in a gap between them, or at one of them.
use Rattle.param_tables.proofs.Common.{◌≡◌, ℕ, ◌+◌, ◌<◌, ◌≤◌, Bool, true, false, List, Option, None, Some, length, get_or, refl, sym, ap, ◌∙◌, inl, inr, arith, ℤ, nat_lt, if◌then◌else◌, slice_get, zip, IsStrictlyIncreasing, option_map, cases_lt, ltb-true, lt-ltb, below_from_sorted, sorted_from_strictly_increasing, range_fault, IsFirstFault, fault_before, given_in, place_fault, CellFault, PlaceFault, Range}
use Rattle.param_tables.proofs.EntryLaws.{given_none, given_at_place, rising_all}

-- what a fault before an end says
pub record IsBefore (missing : Option CellFault) (place end : ℕ) (found : PlaceFault) : Type 0 where
  pub below : place < end
  pub at : found.place ≡ place
  pub fault : missing ≡ Some found.fault

found_by : (missing : Option CellFault) (place end : ℕ) (found : PlaceFault) (b : Bool) → nat_lt place end ≡ b → (if b then option_map (λ fault. record { place = place; fault = fault }) missing else None) ≡ Some found → IsBefore missing place end found
found_by None place end found true t e = absurd cc
found_by (Some fault) place end found true t e =
    let same : (record { place = place; fault = fault }) ≡ found = unsome (record { place = place; fault = fault }) found e in
    record { below = ltb-true place end t; at = sym (ap (λ f. f.place) same); fault = ap (λ f. Some f.fault) same }
  where
    unsome : (f g : PlaceFault) → Some f ≡ Some g → f ≡ g
    unsome f g e = cc
found_by missing place end found false t e = absurd cc

pub fault_before-found : (missing : Option CellFault) (place end : ℕ) (found : PlaceFault) → fault_before missing place end ≡ Some found → IsBefore missing place end found
fault_before-found missing place end found e = found_by missing place end found (nat_lt place end) refl e

pub fault_before-none : (missing : Option CellFault) (place end : ℕ) → fault_before missing place end ≡ None → place < end → missing ≡ None
fault_before-none None place end e below = refl
fault_before-none (Some fault) place end e below = absurd (some_none (record { place = place; fault = fault }) (ap (λ b. if b then Some (record { place = place; fault = fault }) else None) (sym (lt-ltb place end below)) ∙ e))
  where
    some_none : (f : PlaceFault) → Some f ≡ None → ⊥
    some_none f e = cc

module _ (range : Range) (missing : Option CellFault) (places : List ℕ) (values : List ℤ) where
  -- the fault at a place
  abbrev pub fault_at_place : ℕ → Option CellFault
  fault_at_place place = place_fault range missing (given_in (zip places values) place)

  -- no fault below `next`, which lies after the first i places and not after the others
  pub record IsWalked (next i : ℕ) : Type 0 where
    pub before : (k : ℕ) → k < i → get_or places k 0 < next
    pub after : (k : ℕ) → i ≤ k → k < length places → next ≤ get_or places k 0
    pub free : (place : ℕ) → place < next → fault_at_place place ≡ None

  -- nothing is given between `next` and the next place
  gap_none : (next i end place : ℕ) → IsWalked next i → ((k : ℕ) → i ≤ k → k < length places → end ≤ get_or places k 0) → next ≤ place → place < end → given_in (zip places values) place ≡ None
  gap_none next i end place walked stops low high =
      given_none places values place (λ k below. elim (cases_lt k i) [
        | inl first ↦ λ e. let less = walked.before k first in omega arith
        | inr later ↦ λ e. let more = stops k later below in omega arith
      ])

  -- a missing value before the end is the first fault
  pub gap_first : (next i end size : ℕ) (found : PlaceFault) → IsWalked next i → ((k : ℕ) → i ≤ k → k < length places → end ≤ get_or places k 0) → end ≤ size → fault_before missing next end ≡ Some found → IsFirstFault fault_at_place size (Some found)
  gap_first next i end size found walked stops within e =
      let is = fault_before-found missing next end found e in
      let below = is.below in
      let at = is.at in
      let here : given_in (zip places values) found.place ≡ None = gap_none next i end found.place walked stops (omega arith) (omega arith) in
      (omega arith, ap (place_fault range missing) here ∙ is.fault, λ place less. walked.free place (omega arith))

  -- no missing value before the end: no fault before the end
  pub gap_free : (next i end : ℕ) → IsWalked next i → ((k : ℕ) → i ≤ k → k < length places → end ≤ get_or places k 0) → fault_before missing next end ≡ None → (place : ℕ) → place < end → fault_at_place place ≡ None
  gap_free next i end walked stops e place below = elim (cases_lt place next) [
    | inl first ↦ walked.free place first
    | inr later ↦ let some : next < end = omega arith in ap (place_fault range missing) (gap_none next i end place walked stops later below) ∙ fault_before-none missing next end e some
  ]

  -- after the last place
  pub gap_last : (next i size : ℕ) (found : Option PlaceFault) → IsWalked next i → length places ≤ i → found ≡ fault_before missing next size → IsFirstFault fault_at_place size found
  gap_last next i size None walked all e = gap_free next i size walked (λ k low below. absurd (omega arith)) (sym e)
  gap_last next i size (Some found) walked all e = gap_first next i size size found walked (λ k low below. absurd (omega arith)) (omega arith) (sym e)

  module _ (rising : IsStrictlyIncreasing places) (long : length values ≡ length places) where
    pub fault_here : (i : ℕ) (v : ℤ) → i < length places → slice_get values i ≡ Some v → fault_at_place (get_or places i 0) ≡ range_fault range v
    fault_here i v below given = ap (place_fault range missing) (given_at_place places values i rising long below ∙ given)

    -- the places from the i-th on aren't below it
    pub places_after : (i k : ℕ) → i ≤ k → k < length places → get_or places i 0 ≤ get_or places k 0
    places_after i k low below = rising_all places rising i k low below

    pub value_first : (next i size : ℕ) (v : ℤ) (fault : CellFault) → IsWalked next i → i < length places → get_or places i 0 < size → slice_get values i ≡ Some v → fault_before missing next (get_or places i 0) ≡ None → range_fault range v ≡ Some fault → IsFirstFault fault_at_place size (Some (record { place = get_or places i 0; fault = fault }))
    value_first next i size v fault walked below within given none found =
        (within, fault_here i v below given ∙ found, gap_free next i (get_or places i 0) walked (places_after i) none)

    pub walked_more : (next i : ℕ) (v : ℤ) → IsWalked next i → i < length places → slice_get values i ≡ Some v → fault_before missing next (get_or places i 0) ≡ None → range_fault range v ≡ None → IsWalked (get_or places i 0 + 1) (i + 1)
    walked_more next i v walked below given none free = record {
      before = λ k less. elim (cases_lt k i) [
        | inl first ↦ let a = walked.before k first in let b = walked.after i (omega arith) below in omega arith
        | inr last ↦ let same : k ≡ i = omega arith in let e : get_or places k 0 ≡ get_or places i 0 = ap (λ n. get_or places n 0) same in omega arith
      ];
      after = λ k more short. let a : get_or places i 0 < get_or places k 0 = below_from_sorted places i k 0 (sorted_from_strictly_increasing places rising) (omega arith) short in omega arith;
      free = λ place less. elim (cases_lt place (get_or places i 0)) [
        | inl first ↦ gap_free next i (get_or places i 0) walked (places_after i) none place first
        | inr last ↦ let same : place ≡ get_or places i 0 = omega arith in ap fault_at_place same ∙ fault_here i v below given ∙ free
      ];
    }
