-- A change of which no value is refused keeps data complete.
use Rattle.data_changes.proofs.Common.{◌≡◌, ℕ, ℤ, Bool, true, false, cond, List, [], ◌∷◌, ◌++◌, None, Some, Option, refl, subst}
use Rattle.std.specs.List.{AllByRecursion, cons_option, filter_map, find}
use Rattle.std.specs.Option.{option_and_then, option_map, option_or}
use Rattle.std.specs.Ordering.{int_eq}
use Rattle.std.specs.Prelude.{IfSome, IsSomeAnd, if◌then◌else◌, nat_eq, nat_le, unsigned_abs, ◌^◌}
use Rattle.std.proofs.lemmas.Bool.{and_parts, eqb-true, leb-true}
use Rattle.model_sets.specs.Data.{Data, Given, default_of, is_given_at, value_at, value_of_none}
use Rattle.model_sets.specs.Params.{range_of}
use Rattle.model_sets.specs.declared.params.Range.{Range}
use Rattle.param_tables.specs.Built.{AreComplete, Built, IsValueIn}
use Rattle.param_tables.specs.Canonical.{given_value}
use Rattle.param_tables.specs.Changes.{Change, change_refusals, changed_at, changed_fault, changed_value, indices_named, refusal_of, with_change}
use Rattle.param_tables.specs.Ranges.{range_fault}
use Rattle.param_tables.specs.Refusals.{AtIndex}
use Rattle.param_tables.specs.declared.fault.CellFault.{CellFault}
use Rattle.param_tables.specs.declared.fault.CellFault.TheVariants.{OutOfRange}
use Rattle.param_tables.proofs.KeptLaws.{complete_canonical, unmapped}
use Rattle.param_tables.proofs.RangeRules.{ranges_are_told}
use Rattle.data_changes.proofs.AfterLaws.{file_keeps}
use Rattle.data_changes.specs.Files.{after_file}
use Rattle.std.specs.Prelude.{Ok}

no_option : {A : Type 0} (o : Option A) (xs : List A) → cons_option o xs ≡ [] → (o ≡ None) × (xs ≡ [])
no_option None xs none = (refl, none)
no_option (Some x) xs none = absurd (cc none)

-- a value without a fault is one that a parameter of the range may have
value_in : (range : Range) (v : ℤ) → changed_fault range v ≡ None → IsValueIn range v
value_in range v none = by (range_fault range v) (nat_le (unsigned_abs v) (10 ^ 24)) refl refl none
  where
    by : (fault : Option CellFault) (small : Bool) → range_fault range v ≡ fault → nat_le (unsigned_abs v) (10 ^ 24) ≡ small → option_or fault (cond small None (Some OutOfRange)) ≡ None → IsValueIn range v
    by None true is short free = record { within = (ranges_are_told range v).0 is; number = leb-true (unsigned_abs v) (10 ^ 24) short }
    by None false is short free = absurd (cc free)
    by (Some fault) small is short free = absurd (cc free)

-- what is given is one of the parameter's values
abbrev IsFit : Given → Type 0
IsFit given = IsValueIn (range_of given.param) given.value

module _ (d : Data) (change : Change) where
  -- at an index of which the value isn't refused
  fit_at : (index : List (List ℕ)) → refusal_of d change index ≡ None → IfSome (changed_at d change index) IsFit
  fit_at index free = by (value_at d change.param index) free
    where
      by : (old : Option ℤ) → option_map (λ fault. AtIndex fault change.param index) (option_and_then (λ v. changed_fault (range_of change.param) (changed_value change v)) old) ≡ None
          → IfSome (option_and_then (λ v. if int_eq (changed_value change v) v then None else Some (given_value change.param index (changed_value change v))) old) IsFit
      by None none = tt
      by (Some v) none = at (int_eq (changed_value change v) v)
        where
          at : (same : Bool) → IfSome (cond same None (Some (given_value change.param index (changed_value change v)))) IsFit
          at true = tt
          at false = value_in (range_of change.param) (changed_value change v) (unmapped (λ fault. AtIndex fault change.param index) (changed_fault (range_of change.param) (changed_value change v)) none)

  all_fit : (indices : List (List (List ℕ))) → filter_map (refusal_of d change) indices ≡ [] → AllByRecursion IsFit (filter_map (changed_at d change) indices)
  all_fit [] free = tt
  all_fit (index ∷ indices) free =
      let none = no_option (refusal_of d change index) (filter_map (refusal_of d change) indices) free in
      more (changed_at d change index) (filter_map (changed_at d change) indices) (fit_at index none.0) (all_fit indices none.1)
    where
      more : (o : Option Given) (others : List Given) → IfSome o IsFit → AllByRecursion IsFit others → AllByRecursion IsFit (cons_option o others)
      more None others is are = are
      more (Some given) others is are = (is, are)

-- a value that is looked up among fit ones, and else where there was one
looked_up : (p : ℕ) (index : List (List ℕ)) (new old : List Given) (rest : Option ℤ) → AllByRecursion IsFit new
    → IsSomeAnd (option_or (option_map (λ (given : Given). given.value) (find (is_given_at p index) old)) rest) (IsValueIn (range_of p))
    → IsSomeAnd (option_or (option_map (λ (given : Given). given.value) (find (is_given_at p index) (new ++ old))) rest) (IsValueIn (range_of p))
looked_up p index [] old rest are there = there
looked_up p index (given ∷ new) old rest are there = by (is_given_at p index given) refl (looked_up p index new old rest are.1 there)
  where
    by : (here : Bool) → is_given_at p index given ≡ here
        → IsSomeAnd (option_or (option_map (λ (given : Given). given.value) (find (is_given_at p index) (new ++ old))) rest) (IsValueIn (range_of p))
        → IsSomeAnd (option_or (option_map (λ (given : Given). given.value) (cond here (Some given) (find (is_given_at p index) (new ++ old)))) rest) (IsValueIn (range_of p))
    by true is later = let same : given.param ≡ p = eqb-true given.param p (and_parts (nat_eq given.param p) _ is).0 in subst (λ (n : ℕ). IsValueIn (range_of n) given.value) same are.0
    by false is later = later

pub change_complete : (d : Data) (change : Change) → AreComplete d → change_refusals d change ≡ [] → AreComplete (with_change d change)
change_complete d change complete free =
    let new : List Given = filter_map (changed_at d change) (indices_named d change) in
    complete_canonical (record { sets = d.sets; given = new ++ d.given; defaults = d.defaults; second = d.second })
    (record {
      sets = complete.sets;
      values = λ p used index has. looked_up p index new d.given (option_or (default_of d p) (value_of_none p)) (all_fit d change (indices_named d change) free) (complete.values p used index has);
    })

-- and so does a file of changes that is accepted
pub file_complete : (built next : Built) (text : List ℕ) → AreComplete built.facts → after_file built text ≡ Ok next → AreComplete next.facts
file_complete built next text complete e = file_keeps AreComplete change_complete built next text complete e
