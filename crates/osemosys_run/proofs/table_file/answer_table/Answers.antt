use Rattle.osemosys_run.proofs.Common.{ℕ, inl, inr, sym, ◌∙◌, ap, subst, IfSome, IfOk-weaker, Data, Row, List, NumberForm, DueOverRows, DueForProofFile, TellsMade, IsShowable, ShowsProof, shown_named}
use Rattle.osemosys_run.proofs.table_file.answer_table.Goals as goal

pub answer_over-requires-clause-shown : goal.answer_over-requires-clause-shown
answer_over-requires-clause-shown c = subst (λ found. IfSome found (IsShowable c.args.model.now.facts)) c.in-Some.is (c.shown_named.ensures.known c.args.model.now.facts (sym c.second.ensures))

pub answer_over-requires-clause-listed : goal.answer_over-requires-clause-listed
answer_over-requires-clause-listed c = (subst (TellsMade c.args.places c.args.model.now.facts) c.in-Ok.is c.in_ok-book.ensures).listed

pub answer_over-requires-clause-of_data : goal.answer_over-requires-clause-of_data
answer_over-requires-clause-of_data c = (subst (TellsMade c.args.places c.args.model.now.facts) c.in-Ok.is c.in_ok-book.ensures).is_book

pub returns-in-Ok : goal.returns-in-Ok
returns-in-Ok c =
    let d : Data = c.args.model.now.facts in
    let name : List ℕ = c.args.asked.name.now in
    let rows : List Row = c.in-Ok.book.rows in
    let made = subst (TellsMade c.args.places d) c.in-Ok.is c.in_ok-book.ensures in
    let named = sym (ap (λ s. shown_named s name) c.second.ensures) ∙ sym (sym c.in-Some.is ∙ c.shown_named.ensures.named ∙ ap (shown_named c.second.result) c.as_bytes.ensures.value) in
    IfOk-weaker c.answer_over.result _ _
    (λ answer due.
    inr (
      c.in-Some.shown,
      named,
      inl (record {
        made = made.made;
        rows = rows;
        are_rows = made.is_book.are_rows;
        due =
            subst
            (λ (form : NumberForm). DueOverRows (DueForProofFile c.args.places d rows c.args.proof.now c.args.asked.gap) c.args.proof.now (λ said. ShowsProof c.args.places d rows c.in-Some.shown form) d answer.status answer.text.items)
            c.form_of.ensures due;
      }),
    ))
    c.answer_over.ensures

pub returns-in-Err : goal.returns-in-Err
returns-in-Err c =
    let d : Data = c.args.model.now.facts in
    let name : List ℕ = c.args.asked.name.now in
    let none = subst (TellsMade c.args.places d) c.in-Err.is c.in_ok-book.ensures in
    let named = sym (ap (λ s. shown_named s name) c.second.ensures) ∙ sym (sym c.in-Some.is ∙ c.shown_named.ensures.named ∙ ap (shown_named c.second.result) c.as_bytes.ensures.value) in
    inr (c.in-Some.shown, named, inr none)

pub returns-in_default : goal.returns-in_default
returns-in_default c =
    let name : List ℕ = c.args.asked.name.now in
    let unknown = sym (ap (λ s. shown_named s name) c.second.ensures) ∙ sym (ap (shown_named c.second.result) c.as_bytes.ensures.value) ∙ sym c.shown_named.ensures.named ∙ c.in_default.is in
    IfOk-weaker c.refuse_table.result _ _ (λ answer told. inl (record { unknown = unknown; status_is = told.0; line_is = told.1 })) c.refuse_table.ensures
