use Rattle.model_sets.proofs.Common.{◌≡◌, ◌-◌, ℕ, List, [], get_or, ap, ◌∙◌, arith, Bor, set_words}
use Rattle.model_sets.proofs.Tables.{described_entry}
use Rattle.model_sets.proofs.set_words.look_up.Goals as goal

pub returns : goal.returns
returns c =
    let at : c.from.result ≡ c.args.set - 1 = c.from.ensures in
    described_entry (λ (text : Bor (List ℕ)). text.now) c.args.table.now set_words c.from.result _ [] c.requires.tabled (omega arith)
    ∙ ap (λ (i : ℕ). get_or set_words i []) at
