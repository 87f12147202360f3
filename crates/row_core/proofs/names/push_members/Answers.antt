use Rattle.row_core.proofs.Common.{arith, ◌<◌, length, member}
use Rattle.row_core.proofs.NameLaws.{one-more}
use Rattle.row_core.proofs.names.push_members.Goals as goal

pub loop-i-preserved : goal.loop-i-preserved
loop-i-preserved c =
    let inside : c.loop-i.i < length c.args.places.now = omega arith in
    one-more (member c.args.sets.now c.args.index) c.args.places.now c.loop-i.i c.args.out.now.items c.loop-i.out.items _ c.name_at.result.now
    inside c.loop-i.invariant c.name_at.ensures c.in_ok-push_member.ensures.text
