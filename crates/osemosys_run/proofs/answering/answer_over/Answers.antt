use Rattle.osemosys_run.proofs.Common.{◌∷◌, List, ℕ, ℤ, subst, IfOk, DueForCurve, Rounded, wanted_by, DueForSolve, DueForSolveFrom, Wanted}
use Rattle.osemosys_run.proofs.RequestLaws.{as_asked}
use Rattle.osemosys_run.proofs.answering.answer_over.Goals as goal

pub returns-in-Solve : goal.returns-in-Solve
returns-in-Solve g c = λ text.
    let d = c.args.model.now.facts in
    as_asked c.args.command _ _ (text ∷ _) _ d c.answer_solve.result c.in-Solve.is
    (subst (λ (wanted : Wanted). IfOk c.answer_solve.result (λ answer. DueForSolve c.in-Solve.places wanted c.args.model.now.rounded d answer.status answer.text.items)) c.wanted_by-wanted.ensures c.answer_solve.ensures)

pub returns-in-SolveFrom : goal.returns-in-SolveFrom
returns-in-SolveFrom g c = λ text.
    let d = c.args.model.now.facts in
    let from = c.in-SolveFrom in
    let places = from.places in
    as_asked c.args.command _ _ (text ∷ _) _ d c.answer_from.result from.is
    (subst (λ (start : List ℕ). IfOk c.answer_from.result (λ answer. DueForSolveFrom places (wanted_by from.gap from.pivots from.show Rounded) start c.args.model.now.rounded d answer.status answer.text.items)) c.bytes_at.ensures
    (subst (λ (wanted : Wanted). IfOk c.answer_from.result (λ answer. DueForSolveFrom places wanted c.bytes_at.result.now c.args.model.now.rounded d answer.status answer.text.items)) c.wanted_by-wanted-in-SolveFrom.ensures
    c.answer_from.ensures))

pub returns-in-Explain : goal.returns-in-Explain
returns-in-Explain g c = λ text. let d = c.args.model.now.facts in as_asked c.args.command _ _ (text ∷ _) _ d c.answer_explain.result c.in-Explain.is c.answer_explain.ensures

pub returns-in-Curve : goal.returns-in-Curve
returns-in-Curve g c = λ text.
    let d = c.args.model.now.facts in
    let curve = c.in-Curve in
    as_asked c.args.command _ _ (text ∷ _) _ d c.answer_curve.result curve.is
    (subst (λ (limits : List ℤ). IfOk c.answer_curve.result (λ answer. DueForCurve curve.places (record { method = curve.method; pivots = curve.pivots; gap = curve.gap }) (record { region = curve.region.now; emission = curve.emission.now }) limits d answer.status answer.text.items))
    c.deref.ensures.value c.answer_curve.ensures)

pub returns-in-Span : goal.returns-in-Span
returns-in-Span g c = λ text. let d = c.args.model.now.facts in as_asked c.args.command _ _ (text ∷ _) _ d c.answer_span.result c.in-Span.is (rw c.from.ensures at c.answer_span.ensures)

pub returns-in-Reduce : goal.returns-in-Reduce
returns-in-Reduce g c = λ text. let d = c.args.model.now.facts in as_asked c.args.command _ _ (text ∷ _) _ d c.answer_reduce.result c.in-Reduce.is c.answer_reduce.ensures
