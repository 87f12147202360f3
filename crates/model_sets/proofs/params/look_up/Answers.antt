use Rattle.model_sets.proofs.Common.{◌≡◌, ◌-◌, ℕ, get_or, ap, ◌∙◌, arith, described_param, params, no_param}
use Rattle.model_sets.proofs.Tables.{described_entry}
use Rattle.model_sets.proofs.params.look_up.Goals as goal

pub returns : goal.returns
returns c =
    let at : c.from.result ≡ c.args.param - 1 = c.from.ensures in
    described_entry described_param c.args.table.now params c.from.result _ no_param c.requires.tabled (omega arith)
    ∙ ap (λ (i : ℕ). get_or params i no_param) at
