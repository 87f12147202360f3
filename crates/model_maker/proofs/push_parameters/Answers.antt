use Rattle.std.proofs.Common.{◌∙◌, ◌++◌, ◌≤◌, length, ap, arith, append-nil, sym}
use Rattle.std.specs.List.{flat_map}
use Rattle.std.proofs.lemmas.List.{at_drop_all}
use Rattle.model_maker.specs.MadeText.{parameter_text}
use Rattle.model_maker.specs.Tables.{parameters_told}
use Rattle.model_maker.proofs.push_parameters.Goals as goal

pub returns : goal.returns
returns c =
    let table = c.args.table.now in
    let out = c.loop-parameter.out.items in
    let done : length table ≤ c.loop-parameter.parameter-index = omega (arith, c.loop-parameter-test.false) in
    sym (append-nil out)
    ∙ sym (at_drop_all (λ left. out ++ flat_map (parameter_text c.args.years) (parameters_told left)) table c.loop-parameter.parameter-index done)
    ∙ c.loop-parameter.invariant
    ∙ ap (λ ps. c.args.out.now.items ++ flat_map (parameter_text c.args.years) ps) c.requires.tabled
