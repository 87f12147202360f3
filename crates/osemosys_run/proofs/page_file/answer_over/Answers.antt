use Rattle.osemosys_run.proofs.Common.{List, inl, inr, map, sym, subst, AllByRecursion, IfOk-weaker, SetLists, Data, Row, IsListedBook, TellsProof, ShowsPage, all_variables, instances, records_of}
use Rattle.plan_files.specs.Listed.{IsListedRow, name_of_row}
use Rattle.command_answers.proofs.PlanCosts.{all-of}
use Rattle.plan_files.specs.Listed.{IsListedVariable}
use Rattle.result_pages.specs.Pages.{title_of}
use Rattle.osemosys_run.proofs.JudgedScenarios.{values_within}
use Rattle.osemosys_run.proofs.page_file.answer_over.Goals as goal

pub accepted_proof-requires : goal.accepted_proof-requires
accepted_proof-requires c = subst (λ (sets : SetLists). IsListedBook sets c.args.book.now.rows c.args.book.now.vars) (sym c.sets.ensures.sets) c.requires.listed

pub answer_page-requires-clause-listed : goal.answer_page-requires-clause-listed
answer_page-requires-clause-listed c =
    subst (λ (rows : List Row). AllByRecursion (IsListedRow c.args.model.now.facts.sets) (map name_of_row rows)) (sym c.rows.ensures.rows) c.requires.listed.rows_listed

pub answer_page-requires-clause-within : goal.answer_page-requires-clause-within
answer_page-requires-clause-within c =
    let d : Data = c.args.model.now.facts in
    let book = c.requires.of_data in
    let told = subst (TellsProof c.args.places c.args.proof.now c.args.asked.gap d c.args.book.now.rows) c.in-Ok.is (c.in_ok-accepted.ensures c.args.places d c.sets.ensures.sets book) in
    values_within d.sets (all_variables d) (instances d) (records_of c.args.proof.now) c.in-Ok.accepted.proof
    (subst (AllByRecursion (IsListedVariable d.sets)) (all-of d c.args.book.now.vars book.ascending book.exist book.whole) c.requires.listed.vars_listed) told.told told.within

pub returns-in-Ok : goal.returns-in-Ok
returns-in-Ok c =
    let facts = c.args.model.now.facts in
    let told = subst (TellsProof c.args.places c.args.proof.now c.args.asked.gap facts c.args.book.now.rows) c.in-Ok.is (c.in_ok-accepted.ensures c.args.places facts c.sets.ensures.sets c.requires.of_data) in
    IfOk-weaker c.answer_page.result _ _
    (λ answer shows.
    inr (record {
      said = c.in-Ok.accepted.said.items;
      accepted = told.due;
      proof = c.in-Ok.accepted.proof;
      told = told.told;
      shows =
          subst (λ (rows : List Row). ShowsPage (title_of c.args.asked.title) c.args.model.now.rounded c.args.places facts rows c.in-Ok.accepted.said.items c.in-Ok.accepted.proof answer.status answer.text.items) c.rows.ensures.rows
          shows;
    })) c.answer_page.ensures

pub returns-in-Err : goal.returns-in-Err
returns-in-Err c =
    let facts = c.args.model.now.facts in
    let told = subst (TellsProof c.args.places c.args.proof.now c.args.asked.gap facts c.args.book.now.rows) c.in-Err.is (c.in_ok-accepted.ensures c.args.places facts c.sets.ensures.sets c.requires.of_data) in
    inl (record { checked = told.due; not_done = told.not_done })
