-- The data with a limit on the emissions of the model period in a region: the limit's value, and that all other values are as they were.
use Rattle.curve_command.proofs.Common.{◌≡◌, ◌≢◌, ℕ, ℤ, pos, negsuc, Bool, true, false, cond, List, [], ◌∷◌, nat_eq, Option, Some, refl, sym, ap, ap₂, ◌∙◌, inl, inr, arith, eqb-true, to_z, of_z, ◌≤ℤ◌, unwrap_or, both_true, find, and_parts, cases_Bool, false_from_ne_true, ints, IsLimit, Data, default_of, is_given_at, value_at, value_of_none, AreSets, SetLists, MODEL_PERIOD_EMISSION_LIMIT, Index, E9, at_re, is_index, name_at, subscripts_of, model_period_emission_limit, index-tidied, values-from_index, IsMemberOf, given_limit, limit_at, limit_names, with_limit, Member}
use Rattle.std.specs.Int.{w128}
use Rattle.std.specs.Option.{option_map, option_or}
use Rattle.exact_num.proofs.RangeLaws.{back_in_range}
use Rattle.model_sets.specs.Names as sets
use Rattle.param_tables.proofs.GivenLaws.{names_same}
use Rattle.param_tables.proofs.IndexLaws.{names_apart_from}
use Rattle.row_core.specs.Subscripts as place
use Rattle.named_equations.specs.Where.{is_limit}
use Rattle.named_equations.specs.Within.{IsEmission, IsRegion}
use Rattle.named_equations.proofs.PositionsInSets.{are_in_sets}

-- a region and an emission of sets whose members are apart
pub record IsPlace (d : Data) (r e : ℕ) : Type 0 where
  pub sets : AreSets d.sets
  pub region : IsRegion d r
  pub emission : IsEmission d e

-- a limit that isn't negative is one, so it has its equation
pub is-limit : (value : ℤ) → pos 0 ≤ℤ value → is_limit value ≡ true
is-limit (pos n) least = refl
is-limit (negsuc n) least = absurd (omega (arith, ints, least))

module _ (d : Data) (r e : ℕ) (z : ℤ) where
  abbrev limited : Data
  limited = with_limit d r e z

  -- whether a value is the limit's, and the value by that test
  abbrev is_own : ℕ → List (List ℕ) → Bool
  is_own param index = is_given_at param index (given_limit d r e z)

  abbrev chosen : ℕ → List (List ℕ) → Bool → Option ℤ
  chosen param index b =
      option_or (option_map (λ given. given.value) (cond b (Some (given_limit d r e z)) (find (is_given_at param index) d.given))) (option_or (default_of d param) (value_of_none param))

  own-value : (param : ℕ) (index : List (List ℕ)) → is_own param index ≡ true → value_at limited param index ≡ Some z
  own-value param index is = ap (chosen param index) is

  other-value : (param : ℕ) (index : List (List ℕ)) → is_own param index ≡ false → value_at limited param index ≡ value_at d param index
  other-value param index is = ap (chosen param index) is

  own-parts : (param : ℕ) (index : List (List ℕ)) → is_own param index ≡ true → (MODEL_PERIOD_EMISSION_LIMIT ≡ param) × (limit_names d r e ≡ index)
  own-parts param index is =
      let parts = and_parts (nat_eq MODEL_PERIOD_EMISSION_LIMIT param) _ is in (eqb-true MODEL_PERIOD_EMISSION_LIMIT param parts.0, (names_same (limit_names d r e) index).0 parts.1)

  own-itself : is_own MODEL_PERIOD_EMISSION_LIMIT (limit_names d r e) ≡ true
  own-itself = both_true refl ((names_same (limit_names d r e) (limit_names d r e)).1 refl)

  -- ---- the limit at positions

  limit-other : (r' e' : ℕ) → is_own MODEL_PERIOD_EMISSION_LIMIT (limit_names d r' e') ≡ false → model_period_emission_limit limited r' e' ≡ model_period_emission_limit d r' e'
  limit-other r' e' is = ap (λ value. unwrap_or value (pos 0)) (other-value MODEL_PERIOD_EMISSION_LIMIT (limit_names d r' e') is)

  limit-own : (r' e' : ℕ) → is_own MODEL_PERIOD_EMISSION_LIMIT (limit_names d r' e') ≡ true → model_period_emission_limit limited r' e' ≡ z
  limit-own r' e' is = ap (λ value. unwrap_or value (pos 0)) (own-value MODEL_PERIOD_EMISSION_LIMIT (limit_names d r' e') is)

  pub limit-here : model_period_emission_limit limited r e ≡ z
  limit-here = limit-own r e own-itself

  -- at an instance of another name it is as it was
  pub limit-apart : IsPlace d r e → (i : Index) → is_index d (subscripts_of E9) i ≡ true → name_at E9 i ≢ limit_at r e → model_period_emission_limit d i.region i.emission ≡ model_period_emission_limit limited i.region i.emission
  limit-apart at i within apart =
      sym (limit-other i.region i.emission
      (false_from_ne_true _
      (λ own.
      let same : limit_names d r e ≡ limit_names d i.region i.emission = (own-parts MODEL_PERIOD_EMISSION_LIMIT (limit_names d i.region i.emission) own).1 in
      let there = are_in_sets d (subscripts_of E9) i within in
      let one = (names_apart_from d.sets at.sets).apart sets.region r i.region (omega arith, omega arith) at.region (there.region refl) (cc same) in
      let two = (names_apart_from d.sets at.sets).apart sets.emission e i.emission (omega arith, omega arith) at.emission (there.emission refl) (cc same) in
      let subscripts : List ℕ = place.r ∷ place.e ∷ [] in
      let tidied : i ≡ at_re i.region i.emission = index-tidied d subscripts i (values-from_index d subscripts i within) in
      apart (ap (name_at E9) (tidied ∙ ap₂ at_re (sym one) (sym two))))))

-- two limits that aren't negative have an equation at the same indices
pub limits-stand : (d : Data) (r e : ℕ) (y z : ℤ) → pos 0 ≤ℤ y → pos 0 ≤ℤ z → (r' e' : ℕ)
    → is_limit (model_period_emission_limit (with_limit d r e y) r' e') ≡ is_limit (model_period_emission_limit (with_limit d r e z) r' e')
limits-stand d r e y z y_least z_least r' e' = elim (cases_Bool (is_own d r e y MODEL_PERIOD_EMISSION_LIMIT (limit_names d r' e'))) [
  | inl own ↦ ap is_limit (limit-own d r e y r' e' own) ∙ is-limit y y_least ∙ sym (ap is_limit (limit-own d r e z r' e' own) ∙ is-limit z z_least)
  | inr other ↦ ap is_limit (limit-other d r e y r' e' other ∙ sym (limit-other d r e z r' e' other))
]

-- ---- the limits of trials

-- a member of the sets of the data is a place of them
pub place-of : (sets : SetLists) (d : Data) (member : Member) → sets ≡ d.sets → AreSets sets → IsMemberOf sets member → IsPlace d member.region member.emission
place-of sets d member same are of_member = record {
  sets = rw same at are;
  region = rw same at of_member.region;
  emission = rw same at of_member.emission;
}

-- a limit fits
pub limit-fits : (z : ℤ) → IsLimit z → to_z w128 (of_z w128 z) ≡ z
limit-fits z is = back_in_range z (omega (arith, is.1))
