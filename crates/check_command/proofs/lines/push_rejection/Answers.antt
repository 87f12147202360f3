use Rattle.check_command.proofs.Common.{◌≡◌, ◌++◌, sym, subst, OnOk, rejection_text}
use Rattle.check_command.proofs.lines.push_rejection.Goals as goal

pub returns-in-WrongMultiplier : goal.returns-in-WrongMultiplier
returns-in-WrongMultiplier c =
    let pushed = c.push_with_row-in-WrongMultiplier in
    subst (λ rejection. OnOk pushed.result (pushed.new.out.items ≡ c.args.out.now.items ++ rejection_text c.args.sets.now rejection)) (sym c.in-WrongMultiplier.is) pushed.ensures
