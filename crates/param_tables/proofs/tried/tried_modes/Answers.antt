use Rattle.param_tables.proofs.Common.{ℕ, sym, ap, ◌∙◌, is_ratio_nonzero}
use Rattle.param_tables.proofs.AscendingLaws.{range_kept, range_left}
use Rattle.param_tables.proofs.tried.tried_modes.Goals as goal
use Rattle.param_tables.proofs.tried.tried_modes.Goals.{then-is_ratio_nonzero+in_ok-push, else-is_ratio_nonzero}

pub loop-mode-preserved : goal.loop-mode-preserved
loop-mode-preserved c =
    let test = λ (m : ℕ). is_ratio_nonzero c.args.model.now.facts c.args.ratio c.args.region c.args.technology c.args.commodity m c.args.year in
    elim c.if-is_ratio_nonzero.branch [
      | then-is_ratio_nonzero+in_ok-push w ↦ ap (λ v. v.items) w.modes-is ∙ w.in_ok-push.ensures.items ∙ range_kept test c.loop-mode.mode c.loop-mode.modes.items (sym c.is_ratio_nonzero.ensures ∙ w.if-is_ratio_nonzero.true) c.loop-mode.invariant
      | else-is_ratio_nonzero w ↦ ap (λ v. v.items) w.modes-is ∙ range_left test c.loop-mode.mode c.loop-mode.modes.items (sym c.is_ratio_nonzero.ensures ∙ w.if-is_ratio_nonzero.false) c.loop-mode.invariant
    ]
