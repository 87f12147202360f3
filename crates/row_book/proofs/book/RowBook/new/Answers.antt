use Rattle.row_book.proofs.Common.{subst, Contains-from_Has, AreVariablesOf, entry_variables}
use Rattle.row_book.proofs.Columns.{all-stand}
use Rattle.row_book.proofs.KeptLaws.{made-book}
use Rattle.row_book.proofs.Within.{rows-within, stopped-within, variables-exist, variables-within}
use Rattle.row_book.proofs.book.RowBook.new.Goals as goal

pub invariant_of-result : goal.invariant_of-result
invariant_of-result c =
    made-book c.args.places c.args.model.now.facts c.in-Ok.rows.items c.in_ok-vars.vars.items c.all_rows.ensures.complete c.in-Ok.ensures.rows
    (subst (λ rows. AreVariablesOf rows c.in_ok-vars.vars.items) c.deref.ensures.value c.in_ok-vars.ensures)

pub returns-clause-ascending : goal.returns-clause-ascending
returns-clause-ascending c =
    let listed : AreVariablesOf c.in-Ok.rows.items c.in_ok-vars.vars.items = subst (λ rows. AreVariablesOf rows c.in_ok-vars.vars.items) c.deref.ensures.value c.in_ok-vars.ensures in
    (made-book c.args.places c.args.model.now.facts c.in-Ok.rows.items c.in_ok-vars.vars.items c.all_rows.ensures.complete c.in-Ok.ensures.rows listed).ascending

pub returns-clause-definitions : goal.returns-clause-definitions
returns-clause-definitions c =
    let listed : AreVariablesOf c.in-Ok.rows.items c.in_ok-vars.vars.items = subst (λ rows. AreVariablesOf rows c.in_ok-vars.vars.items) c.deref.ensures.value c.in_ok-vars.ensures in
    (made-book c.args.places c.args.model.now.facts c.in-Ok.rows.items c.in_ok-vars.vars.items c.all_rows.ensures.complete c.in-Ok.ensures.rows listed).definitions

pub returns-clause-signs : goal.returns-clause-signs
returns-clause-signs c =
    let listed : AreVariablesOf c.in-Ok.rows.items c.in_ok-vars.vars.items = subst (λ rows. AreVariablesOf rows c.in_ok-vars.vars.items) c.deref.ensures.value c.in_ok-vars.ensures in
    (made-book c.args.places c.args.model.now.facts c.in-Ok.rows.items c.in_ok-vars.vars.items c.all_rows.ensures.complete c.in-Ok.ensures.rows listed).signs

pub returns-clause-named : goal.returns-clause-named
returns-clause-named c = rows-within c.args.places c.args.model.now.facts c.in-Ok.rows.items c.in-Ok.ensures.rows

pub returns-clause-within : goal.returns-clause-within
returns-clause-within c =
    variables-within c.args.places c.args.model.now.facts c.in-Ok.rows.items c.in_ok-vars.vars.items c.in-Ok.ensures.rows
    (subst (λ rows. AreVariablesOf rows c.in_ok-vars.vars.items) c.deref.ensures.value c.in_ok-vars.ensures)

pub returns-clause-exist : goal.returns-clause-exist
returns-clause-exist c =
    variables-exist c.args.places c.args.model.now.facts c.in-Ok.rows.items c.in_ok-vars.vars.items c.in-Ok.ensures.rows
    (subst (λ rows. AreVariablesOf rows c.in_ok-vars.vars.items) c.deref.ensures.value c.in_ok-vars.ensures)

pub returns-clause-whole : goal.returns-clause-whole
returns-clause-whole c v there =
    let listed : AreVariablesOf c.in-Ok.rows.items c.in_ok-vars.vars.items = subst (λ rows. AreVariablesOf rows c.in_ok-vars.vars.items) c.deref.ensures.value c.in_ok-vars.ensures in
    (listed.each v).1
    (Contains-from_Has (entry_variables c.in-Ok.rows.items) v (all-stand c.args.places c.args.model.now.facts c.in-Ok.rows.items v c.all_rows.ensures.complete c.in-Ok.ensures.rows there))

pub returns-in-Err-clause-place : goal.returns-in-Err-clause-place
returns-in-Err-clause-place c = stopped-within c.args.places c.args.model.now.facts c.in-Err.fail c.in-Err.ensures.stopped
