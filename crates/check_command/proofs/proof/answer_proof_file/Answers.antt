use Rattle.check_command.proofs.Common.{◌≡◌, inl, inr, List, map, sym, ◌∙◌, ap, subst, IfOk-weaker, AllByRecursion, RowName, Var, all_variables, instances, IsFailOf, records_of, IsListedVariable, name_of_row, IsProof, IsProofFault, proof_fault_line, all-of}
use Rattle.check_command.proofs.CheckFiles.{names-are}
use Rattle.check_command.proofs.ProofLaws.{proof-fault-within}
use Rattle.check_command.proofs.proof.answer_proof_file.Goals as goal

pub refuse_proof-requires : goal.refuse_proof-requires
refuse_proof-requires c =
    let listed : AllByRecursion (IsListedVariable c.args.sets.now) c.vars.result.now = subst (AllByRecursion (IsListedVariable c.args.sets.now)) (sym c.vars.ensures.variables) c.requires.vars_listed in
    proof-fault-within c.args.sets.now c.vars.result.now (map name_of_row c.rows.result.now) (records_of c.args.text.now) c.in-Err-Fault.fault listed
    (subst (IsFailOf (IsProofFault c.args.sets.now c.vars.result.now (map name_of_row c.rows.result.now) (records_of c.args.text.now))) c.in-Err-Fault.field-0-is c.in-Err-Fault.ensures.fault)

pub returns-in_ok-judged-in-Ok : goal.returns-in_ok-judged-in-Ok
returns-in_ok-judged-in-Ok c = λ places d same book.
    let rows = c.args.book.now.rows in
    let text = c.args.text.now in
    let found = c.in-Ok.proof in
    let vars : c.vars.result.now ≡ all_variables d = c.vars.ensures.variables ∙ all-of d c.args.book.now.vars book.ascending book.exist book.whole in
    let names : map name_of_row c.rows.result.now ≡ instances d = ap (map name_of_row) c.rows.ensures.rows ∙ names-are places d (instances d) rows book.are_rows in
    let told : IsProof d.sets (all_variables d) (instances d) (records_of text) found =
    subst (λ sets. IsProof sets (all_variables d) (instances d) (records_of text) found) same
    (subst (λ (ns : List RowName). IsProof c.args.sets.now (all_variables d) ns (records_of text) found) names
    (subst (λ (vs : List Var). IsProof c.args.sets.now vs (map name_of_row c.rows.result.now) (records_of text) found) vars c.in-Ok.ensures.proof)) in
    inr (found, told, c.in_ok-judged-in-Ok.ensures.due places d same book)

pub returns-in-Err-Fault : goal.returns-in-Err-Fault
returns-in-Err-Fault c = λ places d same book.
    let rows = c.args.book.now.rows in
    let text = c.args.text.now in
    let fault = c.in-Err-Fault.fault in
    let vars : c.vars.result.now ≡ all_variables d = c.vars.ensures.variables ∙ all-of d c.args.book.now.vars book.ascending book.exist book.whole in
    let names : map name_of_row c.rows.result.now ≡ instances d = ap (map name_of_row) c.rows.ensures.rows ∙ names-are places d (instances d) rows book.are_rows in
    let first : IsProofFault d.sets (all_variables d) (instances d) (records_of text) fault =
    subst (λ sets. IsProofFault sets (all_variables d) (instances d) (records_of text) fault) same
    (subst (λ (ns : List RowName). IsProofFault c.args.sets.now (all_variables d) ns (records_of text) fault) names
    (subst (λ (vs : List Var). IsProofFault c.args.sets.now vs (map name_of_row c.rows.result.now) (records_of text) fault) vars
    (subst (IsFailOf (IsProofFault c.args.sets.now c.vars.result.now (map name_of_row c.rows.result.now) (records_of text))) c.in-Err-Fault.field-0-is c.in-Err-Fault.ensures.fault))) in
    IfOk-weaker c.refuse_proof.result _ _
    (λ answer told. inl (record { fault = fault; first = first; status_is = told.0; line_is = told.1 ∙ ap (λ sets. proof_fault_line sets fault) same })) c.refuse_proof.ensures
