use Rattle.osemosys_run.proofs.Common.{List, inr, sym, subst, AllByRecursion, SetLists, Data, Row, all_variables, instances, records_of, IsListedBook, TellsMade, TellsProof, AreTablesFor}
use Rattle.command_answers.proofs.PlanCosts.{all-of}
use Rattle.plan_files.specs.Listed.{IsListedVariable}
use Rattle.osemosys_run.proofs.JudgedScenarios.{accepted-over, no-rows-not_done, refused-over, values_within}
use Rattle.osemosys_run.proofs.compared.judge_over.Goals as goal

pub accepted_proof-requires : goal.accepted_proof-requires
accepted_proof-requires c =
    let made = subst (TellsMade c.args.asked.places c.args.model.now.facts) c.in-Ok.is c.in_ok-book.ensures in
    subst (λ (sets : SetLists). IsListedBook sets c.in-Ok.book.rows c.in-Ok.book.vars) (sym c.sets.ensures.sets) made.listed

pub tables_for-requires-clause-within : goal.tables_for-requires-clause-within
tables_for-requires-clause-within c =
    let d : Data = c.args.model.now.facts in
    let made = subst (TellsMade c.args.asked.places d) c.in-Ok.is c.in_ok-book.ensures in
    let book = made.is_book in
    let told = subst (TellsProof c.args.asked.places c.args.proof.now c.args.asked.gap d c.in-Ok.book.rows) c.in-Ok-2.is (c.in_ok-accepted-in-Ok.ensures c.args.asked.places d c.sets.ensures.sets book) in
    values_within d.sets (all_variables d) (instances d) (records_of c.args.proof.now) c.in-Ok-2.accepted.proof
    (subst (AllByRecursion (IsListedVariable d.sets)) (all-of d c.in-Ok.book.vars book.ascending book.exist book.whole) made.listed.vars_listed) told.told told.within

pub returns-in-Ok-2 : goal.returns-in-Ok-2
returns-in-Ok-2 c =
    let d : Data = c.args.model.now.facts in
    let made = subst (TellsMade c.args.asked.places d) c.in-Ok.is c.in_ok-book.ensures in
    let told = subst (TellsProof c.args.asked.places c.args.proof.now c.args.asked.gap d c.in-Ok.book.rows) c.in-Ok-2.is (c.in_ok-accepted-in-Ok.ensures c.args.asked.places d c.sets.ensures.sets made.is_book) in
    accepted-over c.args.asked.show c.args.asked.places c.args.asked.gap d c.args.proof.now c.in-Ok.book made c.in-Ok-2.accepted c.in_ok-tables-in-Ok-2.tables.items told
    (subst (λ (rows : List Row). AreTablesFor c.args.asked.show c.args.asked.places d rows c.in-Ok-2.accepted.proof c.in_ok-tables-in-Ok-2.tables.items) c.rows.ensures.rows c.in_ok-tables-in-Ok-2.ensures)

pub returns-in-Ok : goal.returns-in-Ok
returns-in-Ok c =
    let d : Data = c.args.model.now.facts in
    let made = subst (TellsMade c.args.asked.places d) c.in-Ok.is c.in_ok-book.ensures in
    let told = subst (TellsProof c.args.asked.places c.args.proof.now c.args.asked.gap d c.in-Ok.book.rows) c.in-Err-2.is (c.in_ok-accepted-in-Ok.ensures c.args.asked.places d c.sets.ensures.sets made.is_book) in
    refused-over c.args.asked.places c.args.asked.gap d c.args.proof.now c.in-Ok.book made c.in-Err-2.said told

pub returns : goal.returns
returns c =
    let d : Data = c.args.model.now.facts in
    let none = subst (TellsMade c.args.asked.places d) c.in-Err.is c.in_ok-book.ensures in
    record { due = inr none; not_done = no-rows-not_done c.args.asked.places d c.in-Err.answer.status c.in-Err.answer.text.items none }
