-- Year by year.
use Rattle.std.proofs.Common.{◌≡◌, ℕ, ◌++◌, ◌∷◌, [], List, sym, ap, ◌∙◌, arith}
use Rattle.std.proofs.lemmas.Grind.{flat_map-append}
use Rattle.std.specs.Prelude.{slice_index_or, unsigned_abs}
use Rattle.std.proofs.lemmas.Int.{ints}
use Rattle.exact_num.proofs.RangeLaws.{back_in_range}
use Rattle.exact_num.specs.Range.{InRange}
use Rattle.csv.specs.Writing.{default_writer, row_text}
use Rattle.plan_files.specs.Texts.{records_text}
use Rattle.discount_factors.specs.Known.{Discounting}
use Rattle.model_sets.specs.Data.{Data}
use Rattle.model_sets.specs.Members.{SetLists, members}
use Rattle.model_sets.specs.Names.{region, year}
use Rattle.named_equations.specs.Parameters.{region_name, year_name}
use Rattle.named_equations.specs.WrittenFactors.{rate_of}
use Rattle.plan_tables.specs.declared.shown.NumberForm.{NumberForm}
use Rattle.data_tables.specs.WorthTables.{factor_text, worth_of, worth_record}
use Rattle.data_tables.proofs.WalkLaws.{append_none}
use Rattle.data_tables.proofs.WrittenLaws.{mapped_next}
use Rattle.data_tables.proofs.worth.push_region.Goals as goal

-- the record of a year, of the fields that are written
recorded : (form : NumberForm) (places : ℕ) (d : Data) (r y : ℕ) (sets sets2 : SetLists) (name name2 value : List ℕ) (factor : ℕ)
    → sets ≡ d.sets → sets2 ≡ d.sets → name ≡ slice_index_or (members sets region) r [] → name2 ≡ slice_index_or (members sets2 year) y []
    → value ≡ factor_text form places factor → factor ≡ worth_of places d r y
    → name ∷ name2 ∷ value ∷ [] ≡ worth_record form places d r y
recorded form places d r y sets sets2 name name2 value factor same same2 is is2 text worth =
    let left : name ≡ region_name d r = is ∙ ap (λ s. slice_index_or (members s region) r []) same in
    let right : name2 ≡ year_name d y = is2 ∙ ap (λ s. slice_index_or (members s year) y []) same2 in
    let told : value ≡ factor_text form places (worth_of places d r y) = text ∙ ap (factor_text form places) worth in
    ap (λ n. n ∷ name2 ∷ value ∷ []) left ∙ ap (λ n. region_name d r ∷ n ∷ value ∷ []) right ∙ ap (λ v. region_name d r ∷ year_name d y ∷ v ∷ []) told

pub loop-year-preserved : goal.loop-year-preserved
loop-year-preserved c =
    let d : Data = c.args.model.now.facts in
    let form = c.args.form in
    let places : ℕ = c.args.places in
    let r : ℕ = c.args.region in
    let y : ℕ = c.loop-year.year in
    let same_places : c.in_ok-factors.factors.places ≡ places = ap (λ (f : Discounting). f.places) c.in_ok-factors.ensures in
    let fits : InRange c.discount_rate-rate.result = omega (arith, ints, c.discount_rate-rate.ensures.least, c.discount_rate-rate.ensures.most) in
    let same_rate : c.in_ok-factors.factors.rate ≡ rate_of d r =
    ap (λ (f : Discounting). f.rate) c.in_ok-factors.ensures ∙ ap unsigned_abs (back_in_range c.discount_rate-rate.result fits) ∙ c.discount_rate-rate.ensures.exact in
    let factor : c.worth_of.result ≡ worth_of places d r y = c.worth_of.ensures r same_rate ∙ ap (λ p. worth_of p d r y) same_places in
    let record_is = recorded form places d r y c.sets-in-loop-year.result.now c.sets-in-loop-year-2.result.now c.name_of-name.result.now c.name_of.result.now c.deref.result.now c.worth_of.result
    c.sets-in-loop-year.ensures.sets c.sets-in-loop-year-2.ensures.sets c.name_of-name.ensures c.name_of.ensures (c.deref.ensures.value ∙ c.in_ok-worth.ensures) factor in
    let written : c.push_record.new.lines ≡ c.loop-year.lines ++ records_text (worth_record form places d r y ∷ []) =
    c.in_ok-push_record.ensures
    ∙ ap (λ fields. c.loop-year.lines ++ row_text default_writer fields) record_is
    ∙ ap (λ t. c.loop-year.lines ++ t) (sym (append_none (row_text default_writer (worth_record form places d r y)))) in
    mapped_next records_text (flat_map-append (row_text default_writer)) (worth_record form places d r)
    y c.count-count.result c.loop-year.lines c.push_record.new.lines _ c.loop-year-test.true c.loop-year.invariant written
