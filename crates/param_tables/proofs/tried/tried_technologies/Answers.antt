use Rattle.param_tables.proofs.Common.{ℕ, sym, ap, ◌∙◌, has_nonzero_mode}
use Rattle.param_tables.proofs.AscendingLaws.{range_kept, range_left}
use Rattle.param_tables.proofs.tried.tried_technologies.Goals as goal
use Rattle.param_tables.proofs.tried.tried_technologies.Goals.{then-has_nonzero_mode+in_ok-push, else-has_nonzero_mode}

pub loop-technology-preserved : goal.loop-technology-preserved
loop-technology-preserved c =
    let test = λ (t : ℕ). has_nonzero_mode c.args.model.now.facts c.args.ratio c.args.region t c.args.commodity c.args.year in
    elim c.if-has_nonzero_mode.branch [
      | then-has_nonzero_mode+in_ok-push w ↦ ap (λ v. v.items) w.technologies-is ∙ w.in_ok-push.ensures.items ∙ range_kept test c.loop-technology.technology c.loop-technology.technologies.items (sym c.has_nonzero_mode.ensures ∙ w.if-has_nonzero_mode.true) c.loop-technology.invariant
      | else-has_nonzero_mode w ↦ ap (λ v. v.items) w.technologies-is ∙ range_left test c.loop-technology.technology c.loop-technology.technologies.items (sym c.has_nonzero_mode.ensures ∙ w.if-has_nonzero_mode.false) c.loop-technology.invariant
    ]
