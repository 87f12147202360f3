use Rattle.osemosys_run.proofs.Common.{List, map, inl, inr, sym, subst, IfOk-weaker, AllByRecursion, SetLists, Data, Row, IsListedBook, TellsProof, ShowsProof}
use Rattle.plan_files.specs.Listed.{IsListedRow, name_of_row}
use Rattle.osemosys_run.proofs.table_file.answer_over.Goals as goal

pub accepted_proof-requires : goal.accepted_proof-requires
accepted_proof-requires c = subst (λ (sets : SetLists). IsListedBook sets c.args.book.now.rows c.args.book.now.vars) (sym c.sets.ensures.sets) c.requires.listed

pub answer_shown-requires-clause-listed : goal.answer_shown-requires-clause-listed
answer_shown-requires-clause-listed c =
    subst (λ (rows : List Row). AllByRecursion (IsListedRow c.args.source.model.now.facts.sets) (map name_of_row rows)) (sym c.requires.rows) c.requires.listed.rows_listed

pub answer_shown-requires-clause-within : goal.answer_shown-requires-clause-within
answer_shown-requires-clause-within c =
    let d : Data = c.args.source.model.now.facts in
    (subst (TellsProof c.args.source.places c.args.proof.now c.args.gap d c.args.book.now.rows) c.in-Ok.is (c.in_ok-accepted.ensures c.args.source.places d c.sets.ensures.sets c.requires.of_data)).within

pub returns-in-Ok : goal.returns-in-Ok
returns-in-Ok c =
    let d : Data = c.args.source.model.now.facts in
    let told = subst (TellsProof c.args.source.places c.args.proof.now c.args.gap d c.args.book.now.rows) c.in-Ok.is (c.in_ok-accepted.ensures c.args.source.places d c.sets.ensures.sets c.requires.of_data) in
    IfOk-weaker c.answer_shown.result _ _
    (λ answer shows.
    inr (record {
      said = c.in-Ok.accepted.said.items;
      accepted = told.due;
      proof = c.in-Ok.accepted.proof;
      told = told.told;
      shows = subst (λ (rows : List Row). ShowsProof c.args.source.places d rows c.args.shown c.args.source.form c.in-Ok.accepted.proof answer.status answer.text.items) c.requires.rows shows;
    })) c.answer_shown.ensures

pub returns-in-Err : goal.returns-in-Err
returns-in-Err c =
    let d : Data = c.args.source.model.now.facts in
    let told = subst (TellsProof c.args.source.places c.args.proof.now c.args.gap d c.args.book.now.rows) c.in-Err.is (c.in_ok-accepted.ensures c.args.source.places d c.sets.ensures.sets c.requires.of_data) in
    inl (record { checked = told.due; not_done = told.not_done })
