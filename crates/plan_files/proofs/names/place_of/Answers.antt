-- The search ends at the key, or between the keys around it.
use Rattle.std.proofs.Common.{Some, ap}
use Rattle.plan_files.proofs.KeyLaws.{alike_alone, parted_none, searchable}
use Rattle.plan_files.proofs.names.place_of.Goals as goal

pub returns-in-Ok-clause-alone : goal.returns-in-Ok-clause-alone
returns-in-Ok-clause-alone g c j d l same =
    ap Some (alike_alone g.K.Ord.cmp g.met.K.Ord.total c.args.keys.now c.args.key c.requires c.in-Ok.at j d c.in-Ok.ensures.bound l (c.in-Ok.ensures.ok d) same)

pub returns-in-Err-clause-alone : goal.returns-in-Err-clause-alone
returns-in-Err-clause-alone g c j d l same =
    let parted = c.in-Err.ensures.position (searchable g.K.Ord.cmp g.met.K.Ord.total c.args.keys.now c.args.key c.requires) in
    absurd (parted_none g.K.Ord.cmp g.met.K.Ord.total c.args.keys.now c.args.key c.in-Err.field-0 parted j d l same)
