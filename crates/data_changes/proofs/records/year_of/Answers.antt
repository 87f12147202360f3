use Rattle.data_changes.proofs.Common.{◌∙◌, None, Some, ap, cond, sym}
use Rattle.model_sets.specs.Members.{members}
use Rattle.model_sets.specs.Names.{year}
use Rattle.model_sets.specs.Years.{number_of}
use Rattle.data_changes.proofs.RecordLaws.{among, not_among, year_at}
use Rattle.data_changes.proofs.records.year_of.Goals as goal

pub returns-in_err-position : goal.returns-in_err-position
returns-in_err-position c =
    let names = members c.args.sets.now year in
    c.from_residual.ensures ∙ sym (ap (λ b. cond b (Some (number_of c.args.name.now)) None) (not_among names c.args.name.now (sym c.index_of.ensures.index ∙ c.in_err-position.was)))

pub returns : goal.returns
returns c =
    let names = members c.args.sets.now year in
    let found = sym c.index_of.ensures.index ∙ c.in_ok-position.was in
    ap Some (c.year.ensures.number ∙ year_at c.args.sets.now c.args.name.now c.in_ok-position.position found c.in_ok-position.ensures.within)
    ∙ sym (ap (λ b. cond b (Some (number_of c.args.name.now)) None) (among names c.args.name.now c.in_ok-position.position found))
