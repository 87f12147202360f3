-- The records are right, and what they give is what was read.
use Rattle.proof_files.proofs.Common.{◌≡◌, List, Option, inl, inr, map, sym, subst, ◌∙◌, Frac, RowName, PlanFault, BreaksFirst, IsFailOf, records_of, name_of_row, AreRead, AreTaken, proof_names, AreRecordsOf, IsProofFault, MissesFirst}
use Rattle.std.proofs.lemmas.Result.{IfErr-weaker, IfOk-weaker, err_from_is_err_and}
use Rattle.plan_files.specs.declared.faults.PlanFail.{PlanFail}
use Rattle.plan_files.specs.declared.faults.PlanFail.TheVariants.{Fault, Memory}
use Rattle.proof_files.proofs.reading.read_proof.Goals as goal

fail_weaker : (P Q : PlanFault → Type 0) → ((fault : PlanFault) → P fault → Q fault) → (fail : PlanFail) → IsFailOf P fail → IsFailOf Q fail
fail_weaker P Q weaker (Fault fault) is = weaker fault is
fail_weaker P Q weaker Memory is = tt

pub returns-in_err-values-clause-fault : goal.returns-in_err-values-clause-fault
returns-in_err-values-clause-fault c =
    let sets = c.args.sets.now in
    let vars = c.args.vars.now in
    let names : List RowName = map name_of_row c.args.rows.now in
    let all = records_of c.args.text.now in
    let is : c.deref.result.now ≡ names = c.deref.ensures.value ∙ c.in_ok-names.ensures in
    let broken : IsFailOf (BreaksFirst (proof_names sets vars names) all) c.in_err-values.field-0.0 =
    subst (λ (ns : List RowName). IsFailOf (BreaksFirst (proof_names sets vars ns) all) c.in_err-values.field-0.0) is c.in_err-values.ensures.fault in
    let fault = fail_weaker (BreaksFirst (proof_names sets vars names) all) (IsProofFault sets vars names all) (λ f first. inl first) c.in_err-values.field-0.0 broken in
    let p = err_from_is_err_and c.from_residual-in_err-values.result c.from_residual-in_err-values.ensures.1 in
    rw (p.1, p.2) fault

pub returns-clause-proof : goal.returns-clause-proof
returns-clause-proof c =
    let sets = c.args.sets.now in
    let vars = c.args.vars.now in
    let names : List RowName = map name_of_row c.args.rows.now in
    let all = records_of c.args.text.now in
    let items : List (Option Frac) = c.in_ok-values.values.items in
    let read : AreRead (proof_names sets vars names) all items =
    subst (λ (ns : List RowName). AreRead (proof_names sets vars ns) all items) (c.deref.ensures.value ∙ c.in_ok-names.ensures) c.in_ok-values.ensures.read in
    let here : c.deref-2.result.now ≡ names = c.deref-2.ensures.value ∙ c.in_ok-names.ensures in
    let taken : AreTaken (proof_names sets vars c.deref-2.result.now) read.rows c.deref-3.result.now =
    subst (λ (vs : List (Option Frac)). AreTaken (proof_names sets vars c.deref-2.result.now) read.rows vs) (sym c.deref-3.ensures.value)
    (subst (λ (ns : List RowName). AreTaken (proof_names sets vars ns) read.rows items) (sym here) read.taken) in
    IfOk-weaker c.proof_of.result _ _
    (λ proof told. record { rows = read.rows; form = read.form; told = subst (λ (ns : List RowName). AreRecordsOf sets vars ns read.rows proof) here told })
    (c.proof_of.ensures.proof sets read.rows taken)

pub returns-clause-fault : goal.returns-clause-fault
returns-clause-fault c =
    let sets = c.args.sets.now in
    let vars = c.args.vars.now in
    let names : List RowName = map name_of_row c.args.rows.now in
    let all = records_of c.args.text.now in
    let items : List (Option Frac) = c.in_ok-values.values.items in
    let read : AreRead (proof_names sets vars names) all items =
    subst (λ (ns : List RowName). AreRead (proof_names sets vars ns) all items) (c.deref.ensures.value ∙ c.in_ok-names.ensures) c.in_ok-values.ensures.read in
    let here : c.deref-2.result.now ≡ names = c.deref-2.ensures.value ∙ c.in_ok-names.ensures in
    let taken : AreTaken (proof_names sets vars c.deref-2.result.now) read.rows c.deref-3.result.now =
    subst (λ (vs : List (Option Frac)). AreTaken (proof_names sets vars c.deref-2.result.now) read.rows vs) (sym c.deref-3.ensures.value)
    (subst (λ (ns : List RowName). AreTaken (proof_names sets vars ns) read.rows items) (sym here) read.taken) in
    IfErr-weaker c.proof_of.result _ _
    (λ fail missed. fail_weaker (MissesFirst sets vars read.rows) (IsProofFault sets vars names all) (λ f misses. inr (record { rows = read.rows; form = read.form; misses = misses })) fail missed)
    (c.proof_of.ensures.missing sets read.rows taken)
