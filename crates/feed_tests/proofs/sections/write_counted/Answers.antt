use Rattle.std.proofs.Common.{sym, subst}
use Rattle.std.specs.List.{AllByRecursion}
use Rattle.model_sets.specs.Members.{SetLists}
use Rattle.mps_writer.specs.MpsText.{IsNamedRow, IsNamedVariable}
use Rattle.feed_tests.proofs.sections.write_counted.Goals as goal

pub mps_to-requires-clause-rows : goal.mps_to-requires-clause-rows
mps_to-requires-clause-rows c =
    subst (λ (sets : SetLists). AllByRecursion (IsNamedRow sets) c.args.rows.now.feed.rows) (sym c.sets.ensures.sets) c.requires.named

pub mps_to-requires-clause-vars : goal.mps_to-requires-clause-vars
mps_to-requires-clause-vars c =
    subst (λ (sets : SetLists). AllByRecursion (IsNamedVariable sets) c.args.vars.now) (sym c.sets.ensures.sets) c.requires.within
