-- When a member is refused depends on the members of its own set alone.
use Rattle.std.proofs.Common.{◌≡◌, ℕ, ◌+◌, ◌-◌, ◌<◌, Bool, true, false, cond, not, ◌&&◌, List, [], ◌∷◌, length, get_or, map, nat_eq, Option, None, Some, if◌then◌else◌, set, refl, sym, ap, subst, ◌∙◌, arith}
use Rattle.param_tables.proofs.Common.{nat_le, filter, AllByRecursion, find, range_with_len, fill_by_all, get_or-map-range_with_len, get_or-range_with_len, length-range_with_len, get_or-set_same, option_map, IsSet, set_count, year, limit_of, required_sets, IsDueTo, is_year, SetFault, Fault, Memory, only, fault_in, refusal_after, member_refusals, set_refusals, first_set_refusal, IsSetFailDue, members_told, set_lists, first_of, Blocks}
use Rattle.model_sets.specs.Members.{SetLists, no_members, members, is_among, first_refusal, first_empty, is_without_members, empty_set, bad_year, twice_in_set, too_many}
use Rattle.model_sets.specs.declared.fault.SetFail.{SetFail}
use Rattle.param_tables.proofs.TurnLaws.{rest_from, rest_free, rest_refused, rest_all}

-- the members of a set that was given these
pub members-set : (sets : SetLists) (k : ℕ) (names : List (List ℕ)) → IsSet k → length sets ≡ set_count → members (set sets (k - 1) names) k ≡ names
members-set sets k names is eleven = let low = is.0 in let high = is.1 in get_or-set_same sets (k - 1) names [] (omega arith)

refusal_of : ℕ → List ℕ → List (List ℕ) → Option ℕ
refusal_of k name names =
    if nat_eq k year && not (is_year name) then Some bad_year
    else if is_among names name then Some twice_in_set
    else if nat_le (limit_of k) (length names) then Some too_many
    else None

same_refusal : (sets : SetLists) (k : ℕ) (names : List (List ℕ)) (name : List ℕ) → IsSet k → members sets k ≡ names → first_refusal sets k name ≡ first_refusal (only k names) k name
unfolding refusal_of
same_refusal sets k names name is same = ap (refusal_of k name) (same ∙ sym (members-set no_members k names is refl))

pub free_after : (sets : SetLists) (k : ℕ) (names : List (List ℕ)) (name : List ℕ) → IsSet k → members sets k ≡ names → first_refusal sets k name ≡ None → refusal_after k names name ≡ None
free_after sets k names name is same free = ap (option_map (fault_in k)) (sym (same_refusal sets k names name is same) ∙ free)

pub refused_after : (sets : SetLists) (k : ℕ) (names : List (List ℕ)) (name : List ℕ) (fail : SetFail) → IsSet k → members sets k ≡ names → IsDueTo (first_refusal sets k name) k fail → IsSetFailDue (refusal_after k names name) fail
refused_after sets k names name (Fault fault) is same due = (ap (option_map (fault_in k)) (sym (same_refusal sets k names name is same) ∙ due.0) ∙ ap (λ n. Some (fault_in n fault.no)) (sym due.1), subst IsSet (sym due.1) is)
refused_after sets k names name Memory is same due = tt

-- a failure that one list of refusals is the cause of, where another list begins as that one does
pub due_first : (o p : Option SetFault) (fail : SetFail) → ((fault : SetFault) → o ≡ Some fault → p ≡ Some fault) → IsSetFailDue o fail → IsSetFailDue p fail
due_first o p (Fault fault) first due = (first fault due.0, due.1)
due_first o p Memory first due = tt

-- ---- all sets

-- the members that the statements give set k
pub members-set_lists : (s : Blocks) (k : ℕ) → IsSet k → members (set_lists s) k ≡ members_told s.sets k
members-set_lists s k is = let low = is.0 in let high = is.1 in get_or-map-range_with_len (members_told s.sets) 1 set_count (k - 1) k [] (omega arith) (omega arith)

pub sets_told_of : (s : Blocks) (sets : SetLists) → length sets ≡ set_count → ((j : ℕ) → j + 1 < set_count + 1 → get_or sets j [] ≡ members_told s.sets (j + 1)) → sets ≡ set_lists s
sets_told_of s sets all done = fill_by_all (λ j. members_told s.sets (j + 1)) sets set_count [] all (λ j below. done j (omega arith))

-- the refusals of the sets that must have a member
empties : Blocks → List SetFault
empties s = map (λ k. fault_in k empty_set) (filter (is_without_members (set_lists s)) required_sets)

-- the refusals from the i-th set on
pub refusals_from : Blocks → ℕ → List SetFault
refusals_from s i = rest_from (λ k. member_refusals k (members (set_lists s) k)) (empties s) (range_with_len 1 set_count) i

pub refusals_none : (s : Blocks) → set_refusals (set_lists s) ≡ refusals_from s 0
unfolding refusals_from empties
refusals_none s = refl

module _ (s : Blocks) (k : ℕ) (is : IsSet k) where
  at_place : get_or (range_with_len 1 set_count) (k - 1) 0 ≡ k
  at_place = let low = is.0 in let high = is.1 in get_or-range_with_len 1 set_count (k - 1) 0 (omega arith) ∙ omega arith

  here : member_refusals (get_or (range_with_len 1 set_count) (k - 1) 0) (members (set_lists s) (get_or (range_with_len 1 set_count) (k - 1) 0)) ≡ member_refusals k (members_told s.sets k)
  here = ap (λ n. member_refusals n (members (set_lists s) n)) at_place ∙ ap (member_refusals k) (members-set_lists s k is)

  below : k - 1 < length (range_with_len 1 set_count)
  below = let high = is.1 in let low = is.0 in omega (arith, length-range_with_len 1 set_count)

  pub refusals_more : member_refusals k (members_told s.sets k) ≡ [] → set_refusals (set_lists s) ≡ refusals_from s (k - 1) → set_refusals (set_lists s) ≡ refusals_from s k
  unfolding refusals_from
  refusals_more free so_far =
      let next : k - 1 + 1 ≡ k = let low = is.0 in omega arith in
      rest_free (λ n. member_refusals n (members (set_lists s) n)) (empties s) (range_with_len 1 set_count) (k - 1) 0 (set_refusals (set_lists s)) below (here ∙ free) so_far ∙ ap (refusals_from s) next

  pub refused_here : (fault : SetFault) → first_of (member_refusals k (members_told s.sets k)) ≡ Some fault → set_refusals (set_lists s) ≡ refusals_from s (k - 1) → first_set_refusal s ≡ Some fault
  unfolding refusals_from
  refused_here fault found so_far = rest_refused (λ n. member_refusals n (members (set_lists s) n)) (empties s) (range_with_len 1 set_count) (k - 1) 0 (set_refusals (set_lists s)) fault below (ap first_of here ∙ found) so_far

first_of-map-filter : {X Y : Type 0} (f : X → Y) (p : X → Bool) (xs : List X) → first_of (map f (filter p xs)) ≡ option_map f (find p xs)
first_of-map-filter f p [] = refl
first_of-map-filter f p (x ∷ xs) = elim (p x) as (λ b. first_of (map f (cond b (x ∷ filter p xs) (filter p xs))) ≡ option_map f (cond b (Some x) (find p xs))) [ true ↦ refl | false ↦ first_of-map-filter f p xs ]

-- no member is refused, so that the sets without members decide
pub refused_at_end : (s : Blocks) (sets : SetLists) → sets ≡ set_lists s → set_refusals (set_lists s) ≡ refusals_from s set_count → first_set_refusal s ≡ option_map (λ k. fault_in k empty_set) (first_empty sets)
unfolding refusals_from empties
refused_at_end s sets told so_far =
    ap first_of (so_far ∙ rest_all (λ k. member_refusals k (members (set_lists s) k)) (empties s) (range_with_len 1 set_count) set_count (omega (arith, length-range_with_len 1 set_count)))
    ∙ first_of-map-filter (λ k. fault_in k empty_set) (is_without_members (set_lists s)) required_sets
    ∙ ap (λ all. option_map (λ k. fault_in k empty_set) (first_empty all)) (sym told)

found_listed : (p : ℕ → Bool) (xs : List ℕ) (k : ℕ) → AllByRecursion IsSet xs → find p xs ≡ Some k → IsSet k
found_listed p [] k every found = absurd cc
found_listed p (x ∷ xs) k every found = by (p x) (λ e. found_listed p xs k every.1 e) found
  where
    same : Some x ≡ Some k → x ≡ k
    same e = cc

    by : (b : Bool) → (find p xs ≡ Some k → IsSet k) → cond b (Some x) (find p xs) ≡ Some k → IsSet k
    by true others e = subst IsSet (same e) every.0
    by false others e = others e

-- a set that must have a member is a set
pub empty_is_set : (sets : SetLists) (k : ℕ) → first_empty sets ≡ Some k → IsSet k
empty_is_set sets k found = found_listed (is_without_members sets) required_sets k ((omega arith, omega arith), ((omega arith, omega arith), ((omega arith, omega arith), ((omega arith, omega arith), ((omega arith, omega arith), ((omega arith, omega arith), tt)))))) found
