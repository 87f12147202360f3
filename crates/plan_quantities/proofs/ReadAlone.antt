-- The numbers that one equation alone reads: each equation has its own parameter, and reads it at positions that tell the index.
use Rattle.std.proofs.Common.{◌≡◌, ℕ, Bool, true, false, not, ◌&&◌, pos, List, [], ◌∷◌, nat_eq, Some, Option, None, refl, sym, ap, ap₂, ◌∙◌, subst, arith, inl, inr, eqb-true, true≢false}
use Rattle.std.specs.Prelude.{ℤ, ◌==◌, if◌then◌else◌}
use Rattle.std.specs.List.{list_all, range_with_len}
use Rattle.std.proofs.lemmas.Bool.{and_parts}
use Rattle.model_sets.specs.Data.{Data, IsUsedParam}
use Rattle.model_sets.specs.Members.{SetLists}
use Rattle.model_sets.specs.Names as sets
use Rattle.model_sets.specs.Params.{subscript_sets}
use Rattle.model_sets.specs.declared.param_numbers.TheConstants as param
use Rattle.row_core.specs.declared.Index.{Index}
use Rattle.row_core.specs.declared.equation_numbers.TheConstants.{AAC2, AAC3, E8, E9, EBB4, EQ_SPECIFIED_DEMAND, NCC1, NCC2, TAC2, TAC3, TCC1, TCC2}
use Rattle.row_core.specs.Subscripts as place
use Rattle.row_core.proofs.Members.{Has}
use Rattle.named_equations.specs.Constants.{AreWithin, constant_of, param_alone, positions_of, read_alone, value_alone, value_within}
use Rattle.named_equations.specs.Indices.{at_re, at_rey, at_rfy, at_rt, at_rty}
use Rattle.named_equations.specs.Instances.{is_index, subscripts_of}
use Rattle.named_equations.proofs.PositionsInSets.{AreInSets, are_in_sets}
use Rattle.named_equations.proofs.SameValues.{◌also◌}
use Rattle.named_equations.proofs.TermMeaning.{EachFrom}
use Rattle.plan_quantities.proofs.WholeTests.{all_at}
use Rattle.row_book.specs.Kinds.{tidied}
use Rattle.row_book.proofs.Subscripts.{index-tidied, values-from_index}

-- ---- one equation each

-- the equation that reads the parameter alone
abbrev pub equation_with : ℕ → ℕ
equation_with p =
    if p == param.ACCUMULATED_ANNUAL_DEMAND then EBB4
    else if p == param.TOTAL_ANNUAL_MAX_CAPACITY then TCC1
    else if p == param.TOTAL_ANNUAL_MIN_CAPACITY then TCC2
    else if p == param.TOTAL_ANNUAL_MAX_CAPACITY_INVESTMENT then NCC1
    else if p == param.TOTAL_ANNUAL_MIN_CAPACITY_INVESTMENT then NCC2
    else if p == param.TOTAL_TECHNOLOGY_ANNUAL_ACTIVITY_UPPER_LIMIT then AAC2
    else if p == param.TOTAL_TECHNOLOGY_ANNUAL_ACTIVITY_LOWER_LIMIT then AAC3
    else if p == param.TOTAL_TECHNOLOGY_MODEL_PERIOD_ACTIVITY_UPPER_LIMIT then TAC2
    else if p == param.TOTAL_TECHNOLOGY_MODEL_PERIOD_ACTIVITY_LOWER_LIMIT then TAC3
    else if p == param.ANNUAL_EMISSION_LIMIT then E8
    else if p == param.MODEL_PERIOD_EMISSION_LIMIT then E9
    else 0

-- what holds of the parameter of an equation: one equation alone reads it, it makes no demand of a timeslice, and it has this equation
abbrev is_own : ℕ → Option ℕ → Bool
is_own eq None = true
is_own eq (Some p) =
    read_alone p && not (nat_eq p param.SPECIFIED_ANNUAL_DEMAND) && not (nat_eq p param.SPECIFIED_DEMAND_PROFILE) && not (nat_eq eq EQ_SPECIFIED_DEMAND) && nat_eq (equation_with p) eq

all_own : list_all (λ eq. is_own eq (param_alone eq)) (range_with_len 1 64) ≡ true
all_own = refl

pub record IsOwn (eq p : ℕ) : Type 0 where
  pub alone : read_alone p ≡ true
  pub no_demand : not (nat_eq p param.SPECIFIED_ANNUAL_DEMAND) ≡ true
  pub no_profile : not (nat_eq p param.SPECIFIED_DEMAND_PROFILE) ≡ true
  pub other : not (nat_eq eq EQ_SPECIFIED_DEMAND) ≡ true
  pub equation : equation_with p ≡ eq

pub own : (eq p : ℕ) → Has (range_with_len 1 64) eq → param_alone eq ≡ Some p → IsOwn eq p
own eq p has is =
    let passes : is_own eq (Some p) ≡ true = subst (λ o. is_own eq o ≡ true) is (all_at (λ n. is_own n (param_alone n)) (range_with_len 1 64) eq all_own has) in
    let a = read_alone p in
    let b = not (nat_eq p param.SPECIFIED_ANNUAL_DEMAND) in
    let c = not (nat_eq p param.SPECIFIED_DEMAND_PROFILE) in
    let f = not (nat_eq eq EQ_SPECIFIED_DEMAND) in
    let fifth = and_parts (((a && b) && c) && f) (nat_eq (equation_with p) eq) passes in
    let fourth = and_parts ((a && b) && c) f fifth.0 in
    let third = and_parts (a && b) c fourth.0 in
    let second = and_parts a b third.0 in
    record { alone = second.0; no_demand = second.1; no_profile = third.1; other = fourth.1; equation = eqb-true (equation_with p) eq fifth.1 }

-- an equation that has a parameter of its own reads no demand of a timeslice
pub constant-is : (d : Data) (eq p : ℕ) (i : Index) → Has (range_with_len 1 64) eq → param_alone eq ≡ Some p → constant_of eq d i ≡ value_within d p (positions_of i p)
constant-is d eq p i has is = by_test (eq == EQ_SPECIFIED_DEMAND) refl
  where
    demanded : ℤ
    demanded = constant_of EQ_SPECIFIED_DEMAND d i

    by_test : (b : Bool) → (eq == EQ_SPECIFIED_DEMAND) ≡ b → (if b then demanded else value_alone d i (param_alone eq)) ≡ value_within d p (positions_of i p)
    by_test true same = absurd (true≢false (sym (own eq p has is).other ∙ ap not same))
    by_test false other = ap (value_alone d i) is

-- ---- positions

-- the subscripts of an index that has these alone
pub tidied-by : (d : Data) (s : List ℕ) (i : Index) → is_index d s i ≡ true → i ≡ tidied s i
tidied-by d s i is = index-tidied d s i (values-from_index d s i is)

-- the parameter is used, it is read at positions of members, and these tell the index
pub record IsReadWell (d : Data) (eq p : ℕ) : Type 0 where
  pub used : IsUsedParam d p
  pub within : (i : Index) → is_index d (subscripts_of eq) i ≡ true → AreWithin d.sets (subscript_sets p) (positions_of i p)
  pub tell : (i j : Index) → is_index d (subscripts_of eq) i ≡ true → is_index d (subscripts_of eq) j ≡ true → positions_of i p ≡ positions_of j p → i ≡ j

within-rfy : (d : Data) (i : Index) → is_index d (place.r ∷ place.f ∷ place.y ∷ []) i ≡ true → AreWithin d.sets (sets.region ∷ sets.fuel ∷ sets.year ∷ []) (i.region ∷ i.fuel ∷ i.year ∷ [])
within-rfy d i is = let at : AreInSets d (place.r ∷ place.f ∷ place.y ∷ []) i = are_in_sets d (place.r ∷ place.f ∷ place.y ∷ []) i is in (at.region refl, (at.fuel refl, (at.year refl, tt)))

tell-rfy : (d : Data) (i j : Index) → is_index d (place.r ∷ place.f ∷ place.y ∷ []) i ≡ true → is_index d (place.r ∷ place.f ∷ place.y ∷ []) j ≡ true → (i.region ∷ i.fuel ∷ i.year ∷ []) ≡ (j.region ∷ j.fuel ∷ j.year ∷ []) → i ≡ j
tell-rfy d i j is js same =
    let first : i ≡ at_rfy i.region i.fuel i.year = tidied-by d (place.r ∷ place.f ∷ place.y ∷ []) i is in
    let second : j ≡ at_rfy j.region j.fuel j.year = tidied-by d (place.r ∷ place.f ∷ place.y ∷ []) j js in
    first ∙ ap (from) same ∙ sym second
  where
    from : List ℕ → Index
    from (a ∷ b ∷ c ∷ rest) = at_rfy a b c
    from (a ∷ b ∷ []) = at_rfy a b 0
    from (a ∷ []) = at_rfy a 0 0
    from [] = at_rfy 0 0 0

within-rty : (d : Data) (i : Index) → is_index d (place.r ∷ place.t ∷ place.y ∷ []) i ≡ true → AreWithin d.sets (sets.region ∷ sets.technology ∷ sets.year ∷ []) (i.region ∷ i.tech ∷ i.year ∷ [])
within-rty d i is = let at : AreInSets d (place.r ∷ place.t ∷ place.y ∷ []) i = are_in_sets d (place.r ∷ place.t ∷ place.y ∷ []) i is in (at.region refl, (at.technology refl, (at.year refl, tt)))

tell-rty : (d : Data) (i j : Index) → is_index d (place.r ∷ place.t ∷ place.y ∷ []) i ≡ true → is_index d (place.r ∷ place.t ∷ place.y ∷ []) j ≡ true → (i.region ∷ i.tech ∷ i.year ∷ []) ≡ (j.region ∷ j.tech ∷ j.year ∷ []) → i ≡ j
tell-rty d i j is js same =
    let first : i ≡ at_rty i.region i.tech i.year = tidied-by d (place.r ∷ place.t ∷ place.y ∷ []) i is in
    let second : j ≡ at_rty j.region j.tech j.year = tidied-by d (place.r ∷ place.t ∷ place.y ∷ []) j js in
    first ∙ ap (from) same ∙ sym second
  where
    from : List ℕ → Index
    from (a ∷ b ∷ c ∷ rest) = at_rty a b c
    from (a ∷ b ∷ []) = at_rty a b 0
    from (a ∷ []) = at_rty a 0 0
    from [] = at_rty 0 0 0

within-rt : (d : Data) (i : Index) → is_index d (place.r ∷ place.t ∷ []) i ≡ true → AreWithin d.sets (sets.region ∷ sets.technology ∷ []) (i.region ∷ i.tech ∷ [])
within-rt d i is = let at : AreInSets d (place.r ∷ place.t ∷ []) i = are_in_sets d (place.r ∷ place.t ∷ []) i is in (at.region refl, (at.technology refl, tt))

tell-rt : (d : Data) (i j : Index) → is_index d (place.r ∷ place.t ∷ []) i ≡ true → is_index d (place.r ∷ place.t ∷ []) j ≡ true → (i.region ∷ i.tech ∷ []) ≡ (j.region ∷ j.tech ∷ []) → i ≡ j
tell-rt d i j is js same =
    let first : i ≡ at_rt i.region i.tech = tidied-by d (place.r ∷ place.t ∷ []) i is in
    let second : j ≡ at_rt j.region j.tech = tidied-by d (place.r ∷ place.t ∷ []) j js in
    first ∙ ap (from) same ∙ sym second
  where
    from : List ℕ → Index
    from (a ∷ b ∷ rest) = at_rt a b
    from (a ∷ []) = at_rt a 0
    from [] = at_rt 0 0

within-rey : (d : Data) (i : Index) → is_index d (place.r ∷ place.e ∷ place.y ∷ []) i ≡ true → AreWithin d.sets (sets.region ∷ sets.emission ∷ sets.year ∷ []) (i.region ∷ i.emission ∷ i.year ∷ [])
within-rey d i is = let at : AreInSets d (place.r ∷ place.e ∷ place.y ∷ []) i = are_in_sets d (place.r ∷ place.e ∷ place.y ∷ []) i is in (at.region refl, (at.emission refl, (at.year refl, tt)))

tell-rey : (d : Data) (i j : Index) → is_index d (place.r ∷ place.e ∷ place.y ∷ []) i ≡ true → is_index d (place.r ∷ place.e ∷ place.y ∷ []) j ≡ true → (i.region ∷ i.emission ∷ i.year ∷ []) ≡ (j.region ∷ j.emission ∷ j.year ∷ []) → i ≡ j
tell-rey d i j is js same =
    let first : i ≡ at_rey i.region i.emission i.year = tidied-by d (place.r ∷ place.e ∷ place.y ∷ []) i is in
    let second : j ≡ at_rey j.region j.emission j.year = tidied-by d (place.r ∷ place.e ∷ place.y ∷ []) j js in
    first ∙ ap (from) same ∙ sym second
  where
    from : List ℕ → Index
    from (a ∷ b ∷ c ∷ rest) = at_rey a b c
    from (a ∷ b ∷ []) = at_rey a b 0
    from (a ∷ []) = at_rey a 0 0
    from [] = at_rey 0 0 0

within-re : (d : Data) (i : Index) → is_index d (place.r ∷ place.e ∷ []) i ≡ true → AreWithin d.sets (sets.region ∷ sets.emission ∷ []) (i.region ∷ i.emission ∷ [])
within-re d i is = let at : AreInSets d (place.r ∷ place.e ∷ []) i = are_in_sets d (place.r ∷ place.e ∷ []) i is in (at.region refl, (at.emission refl, tt))

tell-re : (d : Data) (i j : Index) → is_index d (place.r ∷ place.e ∷ []) i ≡ true → is_index d (place.r ∷ place.e ∷ []) j ≡ true → (i.region ∷ i.emission ∷ []) ≡ (j.region ∷ j.emission ∷ []) → i ≡ j
tell-re d i j is js same =
    let first : i ≡ at_re i.region i.emission = tidied-by d (place.r ∷ place.e ∷ []) i is in
    let second : j ≡ at_re j.region j.emission = tidied-by d (place.r ∷ place.e ∷ []) j js in
    first ∙ ap (from) same ∙ sym second
  where
    from : List ℕ → Index
    from (a ∷ b ∷ rest) = at_re a b
    from (a ∷ []) = at_re a 0
    from [] = at_re 0 0

-- a pair of an equation and its parameter
of_pair : (d : Data) (eq own p : ℕ) → Some own ≡ Some p → IsReadWell d eq own → IsReadWell d eq p
of_pair d eq own p is well = let same : own ≡ p = cc is in subst (IsReadWell d eq) same well

module _ (d : Data) where
  abbrev pub ReadsWell : ℕ → Type 0
  ReadsWell eq = (p : ℕ) → param_alone eq ≡ Some p → IsReadWell d eq p

  ebb4-reads : ReadsWell EBB4
  ebb4-reads p is = of_pair d EBB4 param.ACCUMULATED_ANNUAL_DEMAND p is (record { used = ((omega arith, omega arith), refl); within = within-rfy d; tell = tell-rfy d })

  tcc1-reads : ReadsWell TCC1
  tcc1-reads p is = of_pair d TCC1 param.TOTAL_ANNUAL_MAX_CAPACITY p is (record { used = ((omega arith, omega arith), refl); within = within-rty d; tell = tell-rty d })

  tcc2-reads : ReadsWell TCC2
  tcc2-reads p is = of_pair d TCC2 param.TOTAL_ANNUAL_MIN_CAPACITY p is (record { used = ((omega arith, omega arith), refl); within = within-rty d; tell = tell-rty d })

  ncc1-reads : ReadsWell NCC1
  ncc1-reads p is = of_pair d NCC1 param.TOTAL_ANNUAL_MAX_CAPACITY_INVESTMENT p is (record { used = ((omega arith, omega arith), refl); within = within-rty d; tell = tell-rty d })

  ncc2-reads : ReadsWell NCC2
  ncc2-reads p is = of_pair d NCC2 param.TOTAL_ANNUAL_MIN_CAPACITY_INVESTMENT p is (record { used = ((omega arith, omega arith), refl); within = within-rty d; tell = tell-rty d })

  aac2-reads : ReadsWell AAC2
  aac2-reads p is = of_pair d AAC2 param.TOTAL_TECHNOLOGY_ANNUAL_ACTIVITY_UPPER_LIMIT p is (record { used = ((omega arith, omega arith), refl); within = within-rty d; tell = tell-rty d })

  aac3-reads : ReadsWell AAC3
  aac3-reads p is = of_pair d AAC3 param.TOTAL_TECHNOLOGY_ANNUAL_ACTIVITY_LOWER_LIMIT p is (record { used = ((omega arith, omega arith), refl); within = within-rty d; tell = tell-rty d })

  tac2-reads : ReadsWell TAC2
  tac2-reads p is = of_pair d TAC2 param.TOTAL_TECHNOLOGY_MODEL_PERIOD_ACTIVITY_UPPER_LIMIT p is (record { used = ((omega arith, omega arith), refl); within = within-rt d; tell = tell-rt d })

  tac3-reads : ReadsWell TAC3
  tac3-reads p is = of_pair d TAC3 param.TOTAL_TECHNOLOGY_MODEL_PERIOD_ACTIVITY_LOWER_LIMIT p is (record { used = ((omega arith, omega arith), refl); within = within-rt d; tell = tell-rt d })

  e8-reads : ReadsWell E8
  e8-reads p is = of_pair d E8 param.ANNUAL_EMISSION_LIMIT p is (record { used = ((omega arith, omega arith), refl); within = within-rey d; tell = tell-rey d })

  e9-reads : ReadsWell E9
  e9-reads p is = of_pair d E9 param.MODEL_PERIOD_EMISSION_LIMIT p is (record { used = ((omega arith, omega arith), refl); within = within-re d; tell = tell-re d })

  -- an equation without one
  absent : (eq : ℕ) → param_alone eq ≡ None → ReadsWell eq
  absent eq none p is = absurd (cc (sym none ∙ is))

  -- so each of the 64
  pub all-read : EachFrom ReadsWell 1 64
  all-read =
      absent 1 refl also absent 2 refl also absent 3 refl also absent 4 refl also absent 5 refl also absent 6 refl also absent 7 refl also
      absent 8 refl also absent 9 refl also absent 10 refl also absent 11 refl also absent 12 refl also absent 13 refl also absent 14 refl also
      absent 15 refl also absent 16 refl also absent 17 refl also absent 18 refl also absent 19 refl also absent 20 refl also ebb4-reads also
      absent 22 refl also absent 23 refl also absent 24 refl also absent 25 refl also absent 26 refl also absent 27 refl also absent 28 refl also
      absent 29 refl also absent 30 refl also absent 31 refl also absent 32 refl also absent 33 refl also absent 34 refl also absent 35 refl also
      absent 36 refl also absent 37 refl also absent 38 refl also absent 39 refl also absent 40 refl also absent 41 refl also absent 42 refl also
      tcc1-reads also tcc2-reads also ncc1-reads also ncc2-reads also absent 47 refl also aac2-reads also aac3-reads also absent 50 refl also
      tac2-reads also tac3-reads also absent 53 refl also absent 54 refl also absent 55 refl also absent 56 refl also absent 57 refl also
      absent 58 refl also absent 59 refl also absent 60 refl also absent 61 refl also absent 62 refl also e8-reads also e9-reads also tt
