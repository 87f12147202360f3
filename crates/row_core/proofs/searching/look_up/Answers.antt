-- The search ends at the key, or between the keys around it.
use Rattle.row_core.proofs.Common.{rules, sym, answers_always}
use Rattle.row_core.proofs.LookUpLaws.{ascends-searchable, value_at-found, value_at-parted}
use Rattle.row_core.proofs.searching.look_up.Goals as goal

pub returns-in-Ok : goal.returns-in-Ok
returns-in-Ok g c =
    let found = c.in-Ok.ensures.position (λ entry. entry.0) (answers_always _ _ _ (λ f a r g called. search rules)) c.index-entries-at.result in
    sym (value_at-found g.K.Ord.cmp g.met.K.Ord.total c.args.entries.now c.args.key c.requires c.in-Ok.at c.index-entries-at.result c.in-Ok.ensures.bound found)

pub returns-in-Err : goal.returns-in-Err
returns-in-Err g c =
    let parted = c.in-Err.ensures.position (λ entry. entry.0) (answers_always _ _ _ (λ f a r g called. search rules)) (ascends-searchable g.K.Ord.cmp g.met.K.Ord.total c.args.entries.now c.args.key c.requires) in
    sym (value_at-parted g.K.Ord.cmp g.met.K.Ord.total c.args.entries.now c.args.key c.in-Err.field-0 parted)
