use Rattle.param_tables.proofs.Common.{◌∷◌, [], ◌++◌, ap, sym, ◌∙◌}
use Rattle.param_tables.proofs.AscendingLaws.{range_more}
use Rattle.param_tables.proofs.named_places.all_positions.Goals as goal

pub loop-i-preserved : goal.loop-i-preserved
loop-i-preserved c = c.in_ok-push.ensures.items ∙ ap (λ is. is ++ c.loop-i.i ∷ []) c.loop-i.invariant ∙ sym (range_more c.loop-i.i)
