use Rattle.model_sets.proofs.Common.{sym, ap, ◌∙◌, ◌+◌, ◌*◌, ◌-◌, get_or, drop, drop_more}
use Rattle.model_sets.proofs.YearLaws.{read_on, too_large}
use Rattle.model_sets.proofs.years.number_of_digits.Goals as goal

pub returns-then-number-gt9999 : goal.returns-then-number-gt9999
returns-then-number-gt9999 c =
    let ds = c.args.digits.now in
    let i = c.loop-byte.byte-index in
    sym (too_large ds (c.loop-byte.number * 10 + (get_or ds i 0 - 48)) (drop (i + 1) ds)
    (c.loop-byte.invariant.number ∙ ap (read_on c.loop-byte.number) (drop_more ds i 0 c.loop-byte-test.true))
    (rw c.from.ensures at c.if-number-gt9999.true))
