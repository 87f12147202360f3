use Rattle.data_changes.proofs.Common.{◌∙◌, ◌+◌, ◌-◌, None, Some, ap, ap₂, cond, drop, length, le-leb, lt-leb, option_map, refl, sym, take}
use Rattle.model_sets.specs.Members.{members}
use Rattle.model_sets.specs.Names.{year}
use Rattle.param_tables.specs.ChangeTold.{named_by}
use Rattle.param_tables.specs.Changes.{Years}
use Rattle.data_changes.proofs.RecordLaws.{no_years, year_in, years_are, years_by}
use Rattle.data_changes.proofs.records.years_named.Goals as goal

pub returns-in_err-place-clause-named : goal.returns-in_err-place-clause-named
returns-in_err-place-clause-named c =
    ap (option_map (named_by c.args.sets.now year)) c.from_residual.ensures
    ∙ sym (no_years (members c.args.sets.now year) c.args.text.now (sym c.dash_in.ensures ∙ c.in_err-place.was))

pub returns-in_err-first-clause-named : goal.returns-in_err-first-clause-named
returns-in_err-first-clause-named c =
    let names = members c.args.sets.now year in
    let text = c.args.text.now in
    let last = year_in names (take (length text - (c.in_ok-place.place + 1)) (drop (c.in_ok-place.place + 1) text)) in
    ap (option_map (named_by c.args.sets.now year)) c.from_residual-in_err-first.ensures
    ∙ sym (
    years_are names c.args.text.now c.in_ok-place.place c.year_of.result last (sym c.dash_in.ensures ∙ c.in_ok-place.was) c.year_of.ensures refl
    ∙ ap (λ first. years_by first last) c.in_err-first.was)

pub returns-in_err-last-clause-named : goal.returns-in_err-last-clause-named
returns-in_err-last-clause-named c =
    ap (option_map (named_by c.args.sets.now year)) c.from_residual-in_err-last.ensures
    ∙ sym (
    years_are (members c.args.sets.now year) c.args.text.now c.in_ok-place.place c.year_of.result c.year_of-2.result (sym c.dash_in.ensures ∙ c.in_ok-place.was) c.year_of.ensures c.year_of-2.ensures
    ∙ ap₂ years_by c.in_ok-first.was c.in_err-last.was)

pub returns-then-first-last-clause-named : goal.returns-then-first-last-clause-named
returns-then-first-last-clause-named c =
    sym (
    years_are (members c.args.sets.now year) c.args.text.now c.in_ok-place.place c.year_of.result c.year_of-2.result (sym c.dash_in.ensures ∙ c.in_ok-place.was) c.year_of.ensures c.year_of-2.ensures
    ∙ ap₂ years_by c.in_ok-first.was c.in_ok-last.was
    ∙ ap (λ b. cond b (Some (Years c.in_ok-first.first c.in_ok-last.last)) None) (le-leb c.in_ok-first.first c.in_ok-last.last c.if-first-last.true))

pub returns-else-first-last-clause-named : goal.returns-else-first-last-clause-named
returns-else-first-last-clause-named c =
    sym (
    years_are (members c.args.sets.now year) c.args.text.now c.in_ok-place.place c.year_of.result c.year_of-2.result (sym c.dash_in.ensures ∙ c.in_ok-place.was) c.year_of.ensures c.year_of-2.ensures
    ∙ ap₂ years_by c.in_ok-first.was c.in_ok-last.was
    ∙ ap (λ b. cond b (Some (Years c.in_ok-first.first c.in_ok-last.last)) None) (lt-leb c.in_ok-first.first c.in_ok-last.last c.if-first-last.false))
