use Rattle.check_command.proofs.Common.{refl, [], ◌∷◌, value_of, gap_condition}
use Rattle.check_command.proofs.CheckNames.{fails-named, gap-within, wide-named}
use Rattle.check_command.proofs.OutcomeLaws.{all-pass, gap-fails, gap-wide}
use Rattle.check_command.proofs.outcome.gap_outcome.Goals as goal

pub returns-in-Yes-clause-outcome : goal.returns-in-Yes-clause-outcome
returns-in-Yes-clause-outcome c = λ places d rows plan multipliers checked bounded.
    all-pass places d rows plan (value_of c.args.cost) checked multipliers c.args.gap (value_of c.args.bound) bounded
    c.args.cost c.args.bound c.in-Yes.gap refl refl c.in-Yes.ensures.answer.1 c.in-Yes.ensures.answer.0 c.in-Yes.ensures.yes

pub returns-in-No-clause-outcome : goal.returns-in-No-clause-outcome
returns-in-No-clause-outcome c = λ places d rows plan multipliers checked bounded.
    gap-fails places d rows plan (value_of c.args.cost) checked multipliers c.args.gap (value_of c.args.bound) bounded c.in-No.rejection c.in-No.ensures.answer

pub returns-in-Width-clause-outcome : goal.returns-in-Width-clause-outcome
returns-in-Width-clause-outcome c = λ places d rows plan multipliers checked bounded.
    gap-wide places d rows plan (value_of c.args.cost) checked multipliers c.args.gap (value_of c.args.bound) bounded c.in-Width.place c.in-Width.ensures.answer

pub returns-in-Yes-clause-within : goal.returns-in-Yes-clause-within
returns-in-Yes-clause-within c = λ sets. tt

pub returns-in-No-clause-within : goal.returns-in-No-clause-within
returns-in-No-clause-within c = λ sets.
    fails-named sets (gap_condition (value_of c.args.cost) (value_of c.args.bound) c.args.gap ∷ []) c.in-No.rejection
    (gap-within sets (value_of c.args.cost) (value_of c.args.bound) c.args.gap) c.in-No.ensures.answer

pub returns-in-Width-clause-within : goal.returns-in-Width-clause-within
returns-in-Width-clause-within c = λ sets.
    wide-named sets (gap_condition (value_of c.args.cost) (value_of c.args.bound) c.args.gap ∷ []) c.in-Width.place
    (gap-within sets (value_of c.args.cost) (value_of c.args.bound) c.args.gap) c.in-Width.ensures.answer
