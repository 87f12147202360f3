-- Over the rows of the model with the limit, made anew or renewed.
use Rattle.curve_command.proofs.Common.{sym, subst, SetLists, IsMemberOf, limited}
use Rattle.command_answers.proofs.MadeBooks.{made-book}
use Rattle.curve_command.proofs.KeptBooks.{as-limited, renewed-made, same-made, same-stops}
use Rattle.curve_command.proofs.LimitValues.{place-of}
use Rattle.curve_command.proofs.books.limited_book.Goals as goal

pub renewed-requires-clause-member : goal.renewed-requires-clause-member
renewed-requires-clause-member c =
    let alike = as-limited c.in_ok-limited.limited.facts (limited c.args.model.now.facts c.args.limit) c.in_ok-limited.ensures.facts in
    rw alike.sets c.requires.limit.member

pub returns-in-Some-renewed-clause-book : goal.returns-in-Some-renewed-clause-book
returns-in-Some-renewed-clause-book c =
    let d = c.args.model.now.facts in
    let limit = c.args.limit in
    let changed = c.in_ok-limited.limited.facts in
    let alike = as-limited changed (limited d limit) c.in_ok-limited.ensures.facts in
    let of_member : IsMemberOf changed.sets limit.member = subst (λ (sets : SetLists). IsMemberOf sets limit.member) (sym alike.sets) c.requires.limit.member in
    let at = place-of changed.sets d limit.member alike.sets c.in_ok-limited.ensures.complete.sets of_member in
    let before = rw c.in-Some.is at c.requires.before in
    renewed-made c.args.places d changed limit.member.region limit.member.emission before.most limit.most at before.least c.requires.limit.most.0 alike c.in-Some.book c.in-Some-renewed.book before.made c.in-Some-renewed.ensures

pub returns-in-Ok-clause-book : goal.returns-in-Ok-clause-book
returns-in-Ok-clause-book c =
    let d = c.args.model.now.facts in
    let changed = c.in_ok-limited.limited.facts in
    let made = c.in-Ok.ensures in
    same-made c.args.places changed (limited d c.args.limit) (as-limited changed (limited d c.args.limit) c.in_ok-limited.ensures.facts) c.in-Ok.book
    (made-book c.args.places changed c.in-Ok.book made.made made.rows made.exist made.variables.ascending made.whole made.within)

pub returns-clause-stopped : goal.returns-clause-stopped
returns-clause-stopped c =
    let d = c.args.model.now.facts in
    let changed = c.in_ok-limited.limited.facts in
    same-stops c.args.places changed (limited d c.args.limit) (as-limited changed (limited d c.args.limit) c.in_ok-limited.ensures.facts) c.in-Err.fail c.in-Err.ensures.stopped

pub returns-clause-place : goal.returns-clause-place
returns-clause-place c =
    let alike = as-limited c.in_ok-limited.limited.facts (limited c.args.model.now.facts c.args.limit) c.in_ok-limited.ensures.facts in
    rw alike.sets at c.in-Err.ensures.place
