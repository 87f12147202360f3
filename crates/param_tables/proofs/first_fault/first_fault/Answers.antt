use Rattle.param_tables.proofs.Common.{◌≡◌, ℕ, ◌+◌, ◌<◌, ◌≤◌, List, None, Some, length, get_or, sym, ap, ◌∙◌, subst, arith, slice_get, slice_get-get_or, fault_before, IsFirstFault, CellFault, PlaceFault}
use Rattle.std.specs.Prelude.{Option}
use Rattle.param_tables.proofs.GapLaws.{IsWalked, fault_at_place, gap_first, gap_last, places_after, value_first, walked_more}
use Rattle.param_tables.proofs.first_fault.first_fault.Goals as goal

-- where the slice is that of the places
before_same : (missing : Option CellFault) (next i : ℕ) (slice places : List ℕ) (found : Option PlaceFault) → slice ≡ places → found ≡ fault_before missing next (get_or slice i 0) → fault_before missing next (get_or places i 0) ≡ found
before_same missing next i slice places found same e = ap (λ all. fault_before missing next (get_or all i 0)) (sym same) ∙ sym e

in_reach : (size i : ℕ) (slice places : List ℕ) → slice ≡ places → i < length slice → i < length places
in_reach size i slice places same below = let P : List ℕ → Type 0 = λ all. i < length all in subst P same below

pub returns-in-Some : goal.returns-in-Some
returns-in-Some c =
    let places = c.args.table.now.places.items in
    let values = c.args.table.now.values.items in
    let i = c.loop-i.i in
    let same : c.deref-place-items.result.now ≡ places = c.deref-place-items.ensures.value in
    let below : i < length places = in_reach c.args.size i c.deref-place-items.result.now places same c.loop-i-test.true in
    let found : fault_before c.args.missing c.loop-i.next (get_or places i 0) ≡ Some c.in-Some.found = before_same c.args.missing c.loop-i.next i c.deref-place-items.result.now places (Some c.in-Some.found) same c.in-Some.ensures in
    let within : get_or places i 0 < c.args.size = c.requires.below i 0 below in
    gap_first c.args.range c.args.missing places values c.loop-i.next i (get_or places i 0) c.args.size c.in-Some.found c.loop-i.invariant (places_after c.args.range c.args.missing places values c.requires.ascending c.requires.long i) (omega arith) found

pub returns-in-Some-fault_of : goal.returns-in-Some-fault_of
returns-in-Some-fault_of c =
    let places = c.args.table.now.places.items in
    let values = c.args.table.now.values.items in
    let i = c.loop-i.i in
    let v = c.index.result.now in
    let same : c.deref-place-items.result.now ≡ places = c.deref-place-items.ensures.value in
    let below : i < length places = in_reach c.args.size i c.deref-place-items.result.now places same c.loop-i-test.true in
    let none : fault_before c.args.missing c.loop-i.next (get_or places i 0) ≡ None = before_same c.args.missing c.loop-i.next i c.deref-place-items.result.now places None same c.in_default.ensures in
    let short : i < length values = omega (arith, c.requires.long) in
    let given : slice_get values i ≡ Some v = slice_get-get_or values i v short ∙ ap (λ w. Some w) (sym c.index.ensures) in
    let first = value_first c.args.range c.args.missing places values c.requires.ascending c.requires.long c.loop-i.next i c.args.size v c.in-Some-fault_of.fault c.loop-i.invariant below (c.requires.below i 0 below) given none (sym c.in-Some-fault_of.ensures) in
    let P : List ℕ → Type 0 = λ all. IsFirstFault (fault_at_place c.args.range c.args.missing places values) c.args.size (Some (record { place = get_or all i 0; fault = c.in-Some-fault_of.fault })) in
    subst P (sym same) first

pub loop-i-preserved : goal.loop-i-preserved
loop-i-preserved c =
    let places = c.args.table.now.places.items in
    let values = c.args.table.now.values.items in
    let i = c.loop-i.i in
    let v = c.index.result.now in
    let same : c.deref-place-items.result.now ≡ places = c.deref-place-items.ensures.value in
    let below : i < length places = in_reach c.args.size i c.deref-place-items.result.now places same c.loop-i-test.true in
    let none : fault_before c.args.missing c.loop-i.next (get_or places i 0) ≡ None = before_same c.args.missing c.loop-i.next i c.deref-place-items.result.now places None same c.in_default.ensures in
    let short : i < length values = omega (arith, c.requires.long) in
    let given : slice_get values i ≡ Some v = slice_get-get_or values i v short ∙ ap (λ w. Some w) (sym c.index.ensures) in
    let more = walked_more c.args.range c.args.missing places values c.requires.ascending c.requires.long c.loop-i.next i v c.loop-i.invariant below given none (sym c.in_default-fault_of.ensures) in
    let P : List ℕ → Type 0 = λ all. IsWalked c.args.range c.args.missing places values (get_or all i 0 + 1) (i + 1) in
    subst P (sym same) more

pub returns : goal.returns
returns c =
    let places = c.args.table.now.places.items in
    let values = c.args.table.now.values.items in
    let same : c.deref-place-items.result.now ≡ places = c.deref-place-items.ensures.value in
    let all : length places ≤ c.loop-i.i = let P : List ℕ → Type 0 = λ all. length all ≤ c.loop-i.i in subst P same c.loop-i-test.false in
    gap_last c.args.range c.args.missing places c.args.table.now.values.items c.loop-i.next c.loop-i.i c.args.size c.fault_before-2.result c.loop-i.invariant all c.fault_before-2.ensures
