-- Data with another limit or another annual demand. A plan that is feasible of them meets the equation that reads the number with as much less of its variable as the number is
-- more, and all others as they are.
use Rattle.std.proofs.Common.{◌≡◌, ◌≢◌, ℕ, ◌*◌, ◌^◌, Bool, true, false, not, ◌&&◌, ℤ, pos, ◌-ℤ◌, ◌*ℤ◌, List, [], ◌∷◌, nat_eq, Some, Option, None, refl, sym, ap, ap₂, ◌∙◌, subst, arith, inl, inr, eq-eqb, eqb-true, true≢false}
use Rattle.std.specs.Prelude.{◌==◌, ◌≤ℤ◌, if◌then◌else◌}
use Rattle.std.specs.List.{list_any, range_with_len}
use Rattle.std.proofs.lemmas.Bool.{and_parts}
use Rattle.model_sets.specs.Data.{Data, IsUsedParam}
use Rattle.model_sets.specs.Params.{subscript_sets}
use Rattle.model_sets.specs.declared.param_numbers.TheConstants.{SPECIFIED_ANNUAL_DEMAND, SPECIFIED_DEMAND_PROFILE}
use Rattle.row_core.specs.declared.Index.{Index}
use Rattle.row_core.specs.declared.RowName.{RowName}
use Rattle.row_core.specs.declared.Var.{Var}
use Rattle.row_core.specs.declared.equation_numbers.TheConstants.{AAC2, AAC3, E8, E9, EBB4, EQ_SPECIFIED_DEMAND, NCC1, NCC2, TAC2, TAC3, TCC1, TCC2}
use Rattle.row_core.specs.declared.kind_numbers.TheConstants as kind_of
use Rattle.row_core.specs.Kinds.{kind_is_free}
use Rattle.row_core.specs.Statements.{Holds}
use Rattle.row_core.proofs.Members.{Has}
use Rattle.named_equations.specs.Constants.{AreSameBut, AreWithin, constant_of, param_alone, positions_of, read_alone, value_alone, value_within}
use Rattle.named_equations.specs.Existence.{exists}
use Rattle.named_equations.specs.Instances.{equation_numbers, instances, is_index, is_instance, name_at, stands_at, subscripts_of}
use Rattle.named_equations.specs.Plans.{Feasible, Meets, MeetsEach, says}
use Rattle.named_equations.proofs.AlikeData.{ReadsAlike, exists-alike, instance-alike, says-alike}
use Rattle.named_equations.proofs.InstanceTests.{Has-instances, any_has, range_parts}
use Rattle.named_equations.proofs.PositionsInSets.{AreInSets, are_in_sets}
use Rattle.named_equations.proofs.SameValues.{◌also◌}
use Rattle.named_equations.proofs.TermMeaning.{EachFrom, at_number}
use Rattle.price_tables.specs.declared.shown.PriceTable.{PriceTable}
use Rattle.price_tables.specs.declared.shown.PriceTable.TheVariants.{Fuels, Limits}
use Rattle.price_tables.specs.PricedRows.{priced_kind, priced_variable}
use Rattle.plan_quantities.specs.DataPrices.{AreWith}
use Rattle.plan_quantities.specs.RowPrices.{FeasibleWithLess, with_less}
use Rattle.plan_quantities.proofs.ConstantEquations.{IsMetWithLess, billion, aac2-less, aac3-less, e8-less, e9-less, ebb4-less, ncc1-less, ncc2-less, tac2-less, tac3-less, tcc1-less, tcc2-less}
use Rattle.plan_quantities.proofs.ReadAlone.{IsOwn, IsReadWell, ReadsWell, all-read, constant-is, equation_with, own}

-- ---- names

-- what an instance's tests say
pub record IsThere (d : Data) (name : RowName) : Type 0 where
  pub number : Has (range_with_len 1 64) name.eq
  pub inside : is_index d (subscripts_of name.eq) name.index ≡ true

pub there : (d : Data) (name : RowName) → is_instance d name ≡ true → IsThere d name
there d name is =
    let tests = and_parts (list_any (nat_eq name.eq) equation_numbers && is_index d (subscripts_of name.eq) name.index) (stands_at d name.eq name.index) is in
    let within = and_parts (list_any (nat_eq name.eq) equation_numbers) (is_index d (subscripts_of name.eq) name.index) tests.0 in
    record { number = any_has equation_numbers name.eq within.0; inside = within.1 }

-- a fact of each of the 64, of the equation of a name
pub of_name : (P : ℕ → Type 0) (eq : ℕ) → EachFrom P 1 64 → Has (range_with_len 1 64) eq → P eq
of_name P eq each has = let number = range_parts 1 64 eq has in at_number P 1 64 eq each number.0 (omega (arith, number.1))

pub not-eq : (m n : ℕ) → not (nat_eq m n) ≡ true → m ≢ n
not-eq m n h is = true≢false (sym h ∙ ap not (eq-eqb m n is))

-- a feasible plan meets the equation of each instance
pub meets-there : (places : ℕ) (e : Data) (q : ℕ) (x : Var → ℤ) → Feasible places e q x → (name : RowName) → is_instance e name ≡ true → Meets places e q x name
meets-there places e q x plan name is = of_each (instances e) plan.equations ((Has-instances e name).1 is)
  where
    of_each : (names : List RowName) → MeetsEach places e q x names → Has names name → Meets places e q x name
    of_each [] met has = absurd has
    of_each (other ∷ names) met (inl same) = subst (Meets places e q x) same met.0
    of_each (other ∷ names) met (inr has) = of_each names met.1 has

-- ---- which variable

module _ (places : ℕ) {d e : Data} (same : AreSameBut d e) (q : ℕ) (x : Var → ℤ) (i : Index) where
  -- where the table shows the equation's rows with a variable of this kind, and the equation has a parameter of its own
  abbrev pub IsMetByTable : PriceTable → ℕ → Type 0
  IsMetByTable table eq = (kind p : ℕ) → priced_kind table eq ≡ Some kind → param_alone eq ≡ Some p → IsMetWithLess places same q x i eq (priced_variable kind i)

  absent : (table : PriceTable) (eq : ℕ) → priced_kind table eq ≡ None → IsMetByTable table eq
  absent table eq none kind p is reads = absurd (cc (sym none ∙ is))

  numberless : (table : PriceTable) (eq : ℕ) → param_alone eq ≡ None → IsMetByTable table eq
  numberless table eq none kind p is reads = absurd (cc (sym none ∙ reads))

  ebb4-by : IsMetByTable Fuels EBB4
  ebb4-by kind p is reads = let same_kind : kind_of.PRODUCTION_ANNUAL ≡ kind = cc is in subst (λ k. IsMetWithLess places same q x i EBB4 (priced_variable k i)) same_kind (ebb4-less places same q x i)

  tcc1-by : IsMetByTable Limits TCC1
  tcc1-by kind p is reads = let same_kind : kind_of.TOTAL_CAPACITY_ANNUAL ≡ kind = cc is in subst (λ k. IsMetWithLess places same q x i TCC1 (priced_variable k i)) same_kind (tcc1-less places same q x i)

  tcc2-by : IsMetByTable Limits TCC2
  tcc2-by kind p is reads = let same_kind : kind_of.TOTAL_CAPACITY_ANNUAL ≡ kind = cc is in subst (λ k. IsMetWithLess places same q x i TCC2 (priced_variable k i)) same_kind (tcc2-less places same q x i)

  ncc1-by : IsMetByTable Limits NCC1
  ncc1-by kind p is reads = let same_kind : kind_of.NEW_CAPACITY ≡ kind = cc is in subst (λ k. IsMetWithLess places same q x i NCC1 (priced_variable k i)) same_kind (ncc1-less places same q x i)

  ncc2-by : IsMetByTable Limits NCC2
  ncc2-by kind p is reads = let same_kind : kind_of.NEW_CAPACITY ≡ kind = cc is in subst (λ k. IsMetWithLess places same q x i NCC2 (priced_variable k i)) same_kind (ncc2-less places same q x i)

  aac2-by : IsMetByTable Limits AAC2
  aac2-by kind p is reads = let same_kind : kind_of.TOTAL_TECHNOLOGY_ANNUAL_ACTIVITY ≡ kind = cc is in subst (λ k. IsMetWithLess places same q x i AAC2 (priced_variable k i)) same_kind (aac2-less places same q x i)

  aac3-by : IsMetByTable Limits AAC3
  aac3-by kind p is reads = let same_kind : kind_of.TOTAL_TECHNOLOGY_ANNUAL_ACTIVITY ≡ kind = cc is in subst (λ k. IsMetWithLess places same q x i AAC3 (priced_variable k i)) same_kind (aac3-less places same q x i)

  tac2-by : IsMetByTable Limits TAC2
  tac2-by kind p is reads = let same_kind : kind_of.TOTAL_TECHNOLOGY_MODEL_PERIOD_ACTIVITY ≡ kind = cc is in subst (λ k. IsMetWithLess places same q x i TAC2 (priced_variable k i)) same_kind (tac2-less places same q x i)

  tac3-by : IsMetByTable Limits TAC3
  tac3-by kind p is reads = let same_kind : kind_of.TOTAL_TECHNOLOGY_MODEL_PERIOD_ACTIVITY ≡ kind = cc is in subst (λ k. IsMetWithLess places same q x i TAC3 (priced_variable k i)) same_kind (tac3-less places same q x i)

  e8-by : IsMetByTable Limits E8
  e8-by kind p is reads = let same_kind : kind_of.ANNUAL_EMISSIONS ≡ kind = cc is in subst (λ k. IsMetWithLess places same q x i E8 (priced_variable k i)) same_kind (e8-less places same q x i)

  e9-by : IsMetByTable Limits E9
  e9-by kind p is reads = let same_kind : kind_of.MODEL_PERIOD_EMISSIONS ≡ kind = cc is in subst (λ k. IsMetWithLess places same q x i E9 (priced_variable k i)) same_kind (e9-less places same q x i)

  pub all-by : (table : PriceTable) → EachFrom (IsMetByTable table) 1 64
  all-by Limits =
      absent Limits 1 refl also absent Limits 2 refl also absent Limits 3 refl also absent Limits 4 refl also absent Limits 5 refl also
      absent Limits 6 refl also absent Limits 7 refl also absent Limits 8 refl also absent Limits 9 refl also absent Limits 10 refl also
      absent Limits 11 refl also absent Limits 12 refl also absent Limits 13 refl also absent Limits 14 refl also absent Limits 15 refl also
      absent Limits 16 refl also absent Limits 17 refl also absent Limits 18 refl also absent Limits 19 refl also absent Limits 20 refl also
      absent Limits 21 refl also absent Limits 22 refl also absent Limits 23 refl also absent Limits 24 refl also absent Limits 25 refl also
      absent Limits 26 refl also absent Limits 27 refl also absent Limits 28 refl also absent Limits 29 refl also absent Limits 30 refl also
      absent Limits 31 refl also absent Limits 32 refl also absent Limits 33 refl also absent Limits 34 refl also absent Limits 35 refl also
      absent Limits 36 refl also absent Limits 37 refl also absent Limits 38 refl also absent Limits 39 refl also absent Limits 40 refl also
      absent Limits 41 refl also absent Limits 42 refl also tcc1-by also tcc2-by also ncc1-by also ncc2-by also absent Limits 47 refl also aac2-by also
      aac3-by also absent Limits 50 refl also tac2-by also tac3-by also absent Limits 53 refl also absent Limits 54 refl also
      numberless Limits 55 refl also absent Limits 56 refl also absent Limits 57 refl also absent Limits 58 refl also numberless Limits 59 refl also
      absent Limits 60 refl also absent Limits 61 refl also absent Limits 62 refl also e8-by also e9-by also tt
  all-by Fuels =
      absent Fuels 1 refl also absent Fuels 2 refl also absent Fuels 3 refl also absent Fuels 4 refl also absent Fuels 5 refl also
      absent Fuels 6 refl also absent Fuels 7 refl also absent Fuels 8 refl also absent Fuels 9 refl also absent Fuels 10 refl also
      absent Fuels 11 refl also absent Fuels 12 refl also absent Fuels 13 refl also absent Fuels 14 refl also absent Fuels 15 refl also
      absent Fuels 16 refl also numberless Fuels 17 refl also absent Fuels 18 refl also absent Fuels 19 refl also absent Fuels 20 refl also
      ebb4-by also absent Fuels 22 refl also absent Fuels 23 refl also absent Fuels 24 refl also absent Fuels 25 refl also absent Fuels 26 refl also
      absent Fuels 27 refl also absent Fuels 28 refl also absent Fuels 29 refl also absent Fuels 30 refl also absent Fuels 31 refl also
      absent Fuels 32 refl also absent Fuels 33 refl also absent Fuels 34 refl also absent Fuels 35 refl also absent Fuels 36 refl also
      absent Fuels 37 refl also absent Fuels 38 refl also absent Fuels 39 refl also absent Fuels 40 refl also absent Fuels 41 refl also
      absent Fuels 42 refl also absent Fuels 43 refl also absent Fuels 44 refl also absent Fuels 45 refl also absent Fuels 46 refl also
      absent Fuels 47 refl also absent Fuels 48 refl also absent Fuels 49 refl also absent Fuels 50 refl also absent Fuels 51 refl also
      absent Fuels 52 refl also absent Fuels 53 refl also absent Fuels 54 refl also absent Fuels 55 refl also absent Fuels 56 refl also
      absent Fuels 57 refl also absent Fuels 58 refl also absent Fuels 59 refl also absent Fuels 60 refl also absent Fuels 61 refl also
      absent Fuels 62 refl also absent Fuels 63 refl also absent Fuels 64 refl also tt

-- ---- the plan

module _ (places : ℕ) {d e : Data} (name : RowName) (p : ℕ) (x : ℤ) (reads : param_alone name.eq ≡ Some p) (changed : AreWith d e p (positions_of name.index p) x) (is : is_instance d name ≡ true) where
  named : IsThere d name
  named = there d name is

  abbrev IsOther : ℕ → List ℕ → Type 0
  IsOther other at = ¬ ((other ≡ p) × (at ≡ positions_of name.index p))

  -- only a number that one equation alone reads is changed
  pub alike : AreSameBut d e
  alike = record {
    sets = changed.sets;
    second = changed.second;
    values = λ other shared used at within. changed.others other used at within (λ both. true≢false (sym (own name.eq p named.number reads).alone ∙ ap read_alone (sym both.0) ∙ shared));
  }

  value-alike : (other : ℕ) (at : List ℕ) → IsUsedParam d other → AreWithin d.sets (subscript_sets other) at → IsOther other at → value_within d other at ≡ value_within e other at
  value-alike other at used within differs = changed.others other used at within differs

  -- no other instance reads it
  others-alike : (other : RowName) → is_instance d other ≡ true → other ≢ name → ReadsAlike alike other
  others-alike other is_other apart = by_parts (other.eq == EQ_SPECIFIED_DEMAND) (param_alone other.eq) refl refl
    where
      at : IsThere d other
      at = there d other is_other

      demanded : Data → ℤ
      demanded f = constant_of EQ_SPECIFIED_DEMAND f other.index

      demand-alike : other.eq ≡ EQ_SPECIFIED_DEMAND → demanded d ≡ demanded e
      demand-alike is_demand =
          let sets : AreInSets d (subscripts_of EQ_SPECIFIED_DEMAND) other.index = are_in_sets d (subscripts_of EQ_SPECIFIED_DEMAND) other.index (subst (λ eq. is_index d (subscripts_of eq) other.index ≡ true) is_demand at.inside) in
          let mine = own name.eq p named.number reads in
          ap₂ (λ y part. y *ℤ part)
          (value-alike SPECIFIED_ANNUAL_DEMAND (other.index.region ∷ other.index.fuel ∷ other.index.year ∷ []) ((omega arith, omega arith), refl)
          (sets.region refl, (sets.fuel refl, (sets.year refl, tt))) (λ both. not-eq p SPECIFIED_ANNUAL_DEMAND mine.no_demand (sym both.0)))
          (value-alike SPECIFIED_DEMAND_PROFILE (other.index.region ∷ other.index.fuel ∷ other.index.slice ∷ other.index.year ∷ []) ((omega arith, omega arith), refl)
          (sets.region refl, (sets.fuel refl, (sets.slice refl, (sets.year refl, tt)))) (λ both. not-eq p SPECIFIED_DEMAND_PROFILE mine.no_profile (sym both.0)))

      -- of one parameter, the equation is the same, and where the positions are the same the index is
      number-alike : (own_param : ℕ) → param_alone other.eq ≡ Some own_param → value_within d own_param (positions_of other.index own_param) ≡ value_within e own_param (positions_of other.index own_param)
      number-alike own_param other_reads =
          let well : IsReadWell d other.eq own_param = of_name (ReadsWell d) other.eq (all-read d) at.number own_param other_reads in
          value-alike own_param (positions_of other.index own_param) well.used (well.within other.index at.inside)
          (λ both.
          let same_eq : other.eq ≡ name.eq = sym (own other.eq own_param at.number other_reads).equation ∙ ap equation_with both.0 ∙ (own name.eq p named.number reads).equation in
          let same_index : other.index ≡ name.index =
          well.tell other.index name.index at.inside (subst (λ eq. is_index d (subscripts_of eq) name.index ≡ true) (sym same_eq) named.inside)
          (both.1 ∙ ap (positions_of name.index) (sym both.0)) in
          apart (ap₂ (λ (eq : ℕ) (index : Index). record { eq = eq; index = index }) same_eq same_index))

      by_parts : (b : Bool) (o : Option ℕ) → (other.eq == EQ_SPECIFIED_DEMAND) ≡ b → param_alone other.eq ≡ o
          → (if b then demanded d else value_alone d other.index o) ≡ (if b then demanded e else value_alone e other.index o)
      by_parts true o is_demand is_param = demand-alike (eqb-true other.eq EQ_SPECIFIED_DEMAND is_demand)
      by_parts false None is_demand is_param = refl
      by_parts false (Some own_param) is_demand is_param = number-alike own_param is_param

  -- what the equation reads is x in the one, and the value in the other
  more-is : constant_of name.eq e name.index -ℤ constant_of name.eq d name.index ≡ x -ℤ value_within d p (positions_of name.index p)
  more-is = ap₂ (λ y z. y -ℤ z) (constant-is e name.eq p name.index named.number reads ∙ changed.here) (constant-is d name.eq p name.index named.number reads)

  pub feasible-with-less : (table : PriceTable) (kind : ℕ) → priced_kind table name.eq ≡ Some kind → is_instance e name ≡ true → (q : ℕ) (plan : Var → ℤ) → Feasible places e q plan
      → FeasibleWithLess places d name (priced_variable kind name.index) (x -ℤ value_within d p (positions_of name.index p)) billion q plan
  feasible-with-less table kind shows still q plan feasible = record {
    positive = feasible.positive;
    others = λ other is_other apart.
        let same = others-alike other is_other apart in
        subst Holds (sym (says-alike alike places q plan other is_other same)) (meets-there places e q plan feasible other (instance-alike alike other is_other same));
    less = subst (λ a. Meets places d (billion * q) (with_less (priced_variable kind name.index) a billion q plan) name) more-is
        (of_name (IsMetByTable places alike q plan name.index table) name.eq (all-by places alike q plan name.index table) named.number kind p shows reads
        (are_in_sets d (subscripts_of name.eq) name.index named.inside) (meets-there places e q plan feasible name still));
    signs = λ v is_there fixed. feasible.signs v (sym (exists-alike alike v) ∙ is_there) fixed;
  }
