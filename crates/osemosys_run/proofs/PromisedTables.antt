-- The multipliers of a proof that `check` accepts prove their bound, and so each price that `table` writes of them is promised.
use Rattle.osemosys_run.proofs.Common.{◌≡◌, ◌≢◌, ℕ, ℤ, pos, ◌<◌, List, [], ◌∷◌, ◌++◌, Option, None, Some, inl, inr, sym, ◌∙◌, ap, subst, refl, arith, rules, AllByRecursion, ints, Rational, first_wide, Data, Row, RowName, Var, Place, row_name_cmp, value_in, all_variables, instances, AreRowsOf, AllPass, Condition, first_failing, steps, model_cost, Reason, bound-over, proves_from, AreGiven, Fields, GivesValue, record_of, records_of, Proof, Optimum, Refutation, Descent, IsProof, NumberForm, Done, DueOverRows, DueForPlan, multiplier_bound, plan_cost, DueForProofFile, DueForProofTold, ProofLaws, Shown, or_else, shown_named, DueForKnown, DueForTable, ShowsProof}
use Rattle.std.specs.Option.{option_map}
use Rattle.std.specs.Prelude.{◌<ℤ◌, unsigned_abs, Contains, codes, if◌then◌else◌}
use Rattle.std.specs.Str.{bytes_eq}
use Rattle.exact_num.proofs.RationalLaws.{lowest-IsLowest}
use Rattle.scaled_decimals.specs.FractionText.{bottom_of, top_of}
use Rattle.row_core.specs.Values.{IsOver}
use Rattle.certificate_checker.specs.Certificates.{AreMultipliersOver, Proves, bound_of}
use Rattle.certificate_checker.specs.Denominators.{AreOverSome, HasPositiveBottom}
use Rattle.certificate_checker.specs.Gaps.{gap_condition}
use Rattle.certificate_checker.specs.MultiplierChecks.{bound_conditions}
use Rattle.certificate_checker.specs.PlanChecks.{plan_conditions}
use Rattle.certificate_checker.proofs.ConditionLaws.{fails_before, passed_first, wide_before}
use Rattle.plan_files.specs.Records.{row_fields}
use Rattle.plan_quantities.specs.DataPrices.{IsPromisedOverData}
use Rattle.plan_quantities.specs.Percents.{IsShownPercentPromised}
use Rattle.plan_quantities.specs.RowPrices.{IsRowPromised}
use Rattle.plan_quantities.specs.ShownRows.{IsToBeShown}
use Rattle.plan_quantities.specs.SpokenRows.{AreSpokenOf, HaveEntries}
use Rattle.data_tables.specs.DataNames.{data_table_named}
use Rattle.plan_tables.specs.TableNames.{table_named}
use Rattle.price_tables.specs.declared.shown.PriceTable.{PriceTable}
use Rattle.price_tables.specs.PriceAmounts.{row_price}
use Rattle.price_tables.specs.PricedRows.{price_table_named, priced_rows}
use Rattle.table_command.specs.declared.shown.Shown.TheVariants.{Data as OfData, Page, Prices, Values}
use Rattle.osemosys_run.specs.Promised.{IsPromisedTable}

-- what the multipliers of a proof, over a bound, promise of each row of a table and its variable
abbrev pub TablePromise : Type 1
TablePromise = ℕ → Data → List (RowName × Rational) → Rational → Row × Var → Type 0

-- the law that they do
abbrev pub TableLaw : TablePromise → Type 0
TableLaw P =
    (places : ℕ) (d : Data) (rows : List Row) (s : ℕ) (y : RowName → ℤ) (multipliers : List (RowName × Rational)) (bound : Rational) (table : PriceTable)
    → AreRowsOf places d (instances d) rows → Proves model_cost rows (all_variables d) s y
    → AreMultipliersOver s y multipliers → IsOver (pos s) bound (bound_of y rows)
    → AllByRecursion (P places d multipliers bound) (priced_rows table multipliers rows)

-- a price of the equation, and of the data
abbrev pub ByEquation : TablePromise
ByEquation places d multipliers bound e = IsRowPromised places d e.0.name e.1 bound (row_price multipliers e.0 e.1)

abbrev pub ByData : TablePromise
ByData places d multipliers bound e = IsPromisedOverData places d e.0.name bound (row_price multipliers e.0 e.1)

pub record TableLaws : Type 0 where
  pub prices : TableLaw ByEquation
  pub over_data : TableLaw ByData
  pub percents : TableLaw IsShownPercentPromised

-- ---- conditions after others

-- where all of them pass, the first ones do, and the others
pass-parts : (cs ds : List Condition) → AllPass (cs ++ ds) → AllPass cs × AllPass ds
pass-parts cs ds h = cases (first_failing cs) refl (first_wide (steps cs)) refl
  where
    cases : (first : Option Reason) → first_failing cs ≡ first → (wide : Option Place) → first_wide (steps cs) ≡ wide → AllPass cs × AllPass ds
    cases first is (Some place) wide = absurd (cc (sym h.fit ∙ wide_before cs ds place wide))
    cases (Some other) is None fit = absurd (cc (sym h.hold ∙ (fails_before cs ds other is).1))
    cases None is None fit =
        let pass : AllPass cs = record { fit = fit; hold = is } in
        let so_far = passed_first cs ds pass in
        (pass, record { fit = sym so_far.wide ∙ h.fit; hold = sym so_far.failing ∙ h.hold })

-- ---- multipliers

-- a value that a record gives has a denominator above 0
given_positive : (found : Option Fields) (x : Rational) → GivesValue found (Some x) → pos 0 <ℤ x.bottom
given_positive None x h = absurd (cc h)
given_positive (Some r) x (y, given, (f, spelled, fit, low)) =
    let same : x ≡ y = cc given in
    let nonzero : bottom_of f ≢ pos 0 = λ e. spelled.nonzero (ap unsigned_abs e) in
    subst (λ (v : Rational). pos 0 <ℤ v.bottom) (sym (same ∙ low)) (lowest-IsLowest (top_of f) (bottom_of f) nonzero).positive

-- and so have all that the records give
all_positive : {K : Type 0} (name_fields : K → Fields) (rows : List Fields) (told : List (K × Rational)) → AreGiven name_fields rows told → AllByRecursion HasPositiveBottom told
all_positive name_fields rows [] given = tt
all_positive name_fields rows (e ∷ told) given = (given_positive (record_of rows (name_fields e.0)) e.1 given.0, all_positive name_fields rows told given.1)

-- the law that a table forgets no row
abbrev pub ShownRowLaw : Type 0
ShownRowLaw =
    (places : ℕ) (d : Data) (table : PriceTable) (multipliers : List (RowName × Rational)) (rows : List Row) (row : Row) → IsToBeShown places d table row.name → Contains rows row
    → (value_in row_name_cmp multipliers row.name).top ≢ pos 0 → (p : Var) × Contains (priced_rows table multipliers rows) (row, p)

-- the law that each row that a table shows speaks of its variable, with an entry there
pub record SpokenRowLaw : Type 0 where
  pub spoken : (places : ℕ) (d : Data) (table : PriceTable) (multipliers : List (RowName × Rational)) (rows : List Row) → AreRowsOf places d (instances d) rows
      → AreSpokenOf places (priced_rows table multipliers rows)
  pub entries : (places : ℕ) (d : Data) (table : PriceTable) (multipliers : List (RowName × Rational)) (rows : List Row) → AreRowsOf places d (instances d) rows
      → HaveEntries (priced_rows table multipliers rows)

positive_of : (s : ℕ) → 0 < s → pos 0 <ℤ pos s
positive_of s h = omega (arith, ints)

-- the law on lists of fractions
abbrev pub DenominatorLaw : Type 0
DenominatorLaw = (entries : List (RowName × Rational)) → AllByRecursion HasPositiveBottom entries → AreOverSome row_name_cmp entries

module _ (laws : ProofLaws) (law : TableLaws) (complete : ShownRowLaw) (of_rows : SpokenRowLaw) (denominators : DenominatorLaw) (places : ℕ) (d : Data) (bytes : List ℕ) (gap : ℕ) where
  abbrev vars : List Var
  vars = all_variables d

  -- multipliers whose conditions pass prove their bound, and so keep each promise
  promised-by : (P : TablePromise) → TableLaw P → (rows : List Row) (multipliers : List (RowName × Rational)) (table : PriceTable) → AreRowsOf places d (instances d) rows
      → AllPass (bound_conditions model_cost rows vars multipliers) → (s : ℕ) (y : RowName → ℤ) → AreMultipliersOver s y multipliers
      → AllByRecursion (P places d multipliers (multiplier_bound rows multipliers)) (priced_rows table multipliers rows)
  promised-by P of_table rows multipliers table are pass s y over =
      let value = value_in row_name_cmp multipliers in
      let positive : pos 0 <ℤ pos s = positive_of s over.0 in
      let each : (name : RowName) → IsOver (pos s) (value name) (y name) = over.1 in
      let hold : first_failing (bound_conditions model_cost rows vars multipliers) ≡ None = pass.hold in
      let proves : Proves model_cost rows vars s y = search (rules, proves_from) in
      of_table places d rows s y multipliers (multiplier_bound rows multipliers) table are proves over
      (bound-over s y value (positive_of s over.0) over.1 rows)

  -- the conditions of an accepted optimum pass, among them those of its multipliers
  accepted-pass : (rows : List Row) (plan : List (Var × Rational)) (multipliers : List (RowName × Rational)) (said : List ℕ) → DueForPlan places d rows plan (Some multipliers) gap Done said
      → AllPass (bound_conditions model_cost rows vars multipliers)
  accepted-pass rows plan multipliers said (inl accepted) =
      let after = pass-parts (plan_conditions model_cost rows vars plan) (bound_conditions model_cost rows vars multipliers ++ gap_condition (plan_cost d plan) (multiplier_bound rows multipliers) gap ∷ []) accepted.pass in
      (pass-parts (bound_conditions model_cost rows vars multipliers) (gap_condition (plan_cost d plan) (multiplier_bound rows multipliers) gap ∷ []) after.1).0
  accepted-pass rows plan multipliers said (inr (inl rejected)) = absurd (cc rejected.status_is)
  accepted-pass rows plan multipliers said (inr (inr wide)) = absurd (cc wide.status_is)

  -- of a file that is accepted, what is due is due of what it tells
  told-so : (rows : List Row) (proof : Proof) (said : List ℕ) → IsProof d.sets vars (instances d) (records_of bytes) proof → DueForProofFile places d rows bytes gap Done said
      → DueForProofTold places d rows gap proof Done said
  told-so rows proof said is (inl refused) = absurd (laws.proof_or_fault d.sets vars (instances d) (records_of bytes) proof refused.fault is refused.first)
  told-so rows proof said is (inr read) =
      subst (λ (p : Proof). DueForProofTold places d rows gap p Done said) (laws.one_proof d.sets vars (instances d) (records_of bytes) read.0 proof read.1 is) read.2

  -- a table of prices that is shown of a proof is that of its multipliers
  of-proof : (rows : List Row) (table : PriceTable) (form : NumberForm) (text : List ℕ) (proof : Proof) (said : List ℕ) → AreRowsOf places d (instances d) rows
      → IsProof d.sets vars (instances d) (records_of bytes) proof → DueForProofTold places d rows gap proof Done said → ShowsProof places d rows (Prices table) form proof Done text
      → IsPromisedTable places d bytes table form text
  of-proof rows table form text (Optimum plan multipliers) said are told due shows =
      let some = denominators multipliers (all_positive (row_fields d.sets) told.rows multipliers told.told.3.values) in
      let pass = accepted-pass rows plan multipliers said due in
      let over : AreMultipliersOver some.over some.number multipliers = (some.positive, some.each) in
      record {
        rows = rows;
        plan = plan;
        multipliers = multipliers;
        are_rows = are;
        told = told;
        text_is = shows.1;
        complete = λ row given shown nonzero. complete places d table multipliers rows row shown given nonzero;
        spoken = of_rows.spoken places d table multipliers rows are;
        entries = of_rows.entries places d table multipliers rows are;
        promised = promised-by ByEquation law.prices rows multipliers table are pass some.over some.number over;
        over_data = promised-by ByData law.over_data rows multipliers table are pass some.over some.number over;
        percents = promised-by IsShownPercentPromised law.percents rows multipliers table are pass some.over some.number over;
      }
  of-proof rows table form text (Refutation multipliers) said are told due shows = absurd (cc shows.0)
  of-proof rows table form text (Descent plan direction) said are told due shows = absurd (cc shows.0)

  over-rows : (rows : List Row) (table : PriceTable) (form : NumberForm) (text : List ℕ) → AreRowsOf places d (instances d) rows
      → DueOverRows (DueForProofFile places d rows bytes gap) bytes (λ said. ShowsProof places d rows (Prices table) form) d Done text → IsPromisedTable places d bytes table form text
  over-rows rows table form text are (inl checked) = absurd (checked.not_done refl)
  over-rows rows table form text are (inr shown) = of-proof rows table form text shown.proof shown.said are shown.told (told-so rows shown.proof shown.said shown.told shown.accepted) shown.shows

  of-known : (table : PriceTable) (form : NumberForm) (text : List ℕ) → DueForKnown places (λ rows. DueForProofFile places d rows bytes gap) bytes (Prices table) form d Done text
      → IsPromisedTable places d bytes table form text
  of-known table form text (inl made) = over-rows made.rows table form text made.are_rows made.due
  of-known table form text (inr (inl uncertified)) = absurd (cc uncertified.status_is)
  of-known table form text (inr (inr large)) = absurd (cc large.status_is)

  -- What is promised of a table by its name.
  pub table-promised : (name : List ℕ) (form : NumberForm) (table : PriceTable) (text : List ℕ) → price_table_named name ≡ Some table
      → DueForTable places (λ rows. DueForProofFile places d rows bytes gap) bytes name form d Done text → IsPromisedTable places d bytes table form text
  table-promised name form table text named (inl unknown) = absurd (cc unknown.status_is)
  table-promised name form table text named (inr known) =
      let others : Option Shown = or_else (option_map Values (table_named name)) (if bytes_eq name (codes "page") then Some Page else option_map OfData (data_table_named d.second name)) in
      let priced : shown_named d.second name ≡ Some (Prices table) = ap (λ (found : Option PriceTable). or_else (option_map Prices found) others) named in
      let same : Some known.0 ≡ Some (Prices table) = sym known.1 ∙ priced in
      let is : known.0 ≡ Prices table = cc in
      of-known table form text (subst (λ (shown : Shown). DueForKnown places (λ rows. DueForProofFile places d rows bytes gap) bytes shown form d Done text) is known.2)
