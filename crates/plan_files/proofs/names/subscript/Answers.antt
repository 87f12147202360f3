-- No name stands twice in a set, so the position of a member is the only one of its name.
use Rattle.plan_files.proofs.Common.{◌∙◌, members}
use Rattle.plan_files.proofs.SubscriptLaws.{subscript_alone, subscript_there}
use Rattle.plan_files.proofs.names.subscript.Goals as goal

pub returns-then-has-clause-named : goal.returns-then-has-clause-named
returns-then-has-clause-named c = subscript_there (members c.args.sets.now c.args.set) c.args.has c.args.name.now c.index_of.result c.if-has.true c.index_of.ensures.index

pub returns-then-has-clause-alone : goal.returns-then-has-clause-alone
returns-then-has-clause-alone c i is =
    c.index_of.ensures.index
    ∙ subscript_alone (members c.args.sets.now c.args.set) c.args.has c.args.name.now i c.if-has.true (c.count-members.ensures.rules.rules c.args.set c.requires).distinct is
