-- The checker's answer.
use Rattle.certified_answers.proofs.Common.{ℕ, ℤ, subst, value_of, RowName, IsOver, AdmitsNone, AreMultipliersOver, Refutes, bound_of, AllPass, infeasible_conditions, IfYes, IsVerdict, OnNo, OnYes, multiplier_bound}
use Rattle.std.specs.Prelude.{pos}
use Rattle.certified_answers.proofs.accepting.accepted_refutation.Goals as goal

pub returns-in-Yes-clause-refutation : goal.returns-in-Yes-clause-refutation
returns-in-Yes-clause-refutation c =
    let rows = c.args.rows.now in
    let vars = c.args.vars.now in
    let m = c.args.multipliers.now in
    let pass : AllPass (infeasible_conditions rows vars m) = (subst (λ v. IsVerdict (infeasible_conditions rows vars m) (multiplier_bound rows m) v) c.in-Yes.is c.in_ok-verdict.ensures.answer).0 in
    let refutes : (s : ℕ) (y : RowName → ℤ) → AreMultipliersOver s y m → Refutes rows vars s y
    = λ s y are. (subst (λ v. IfYes v (λ b. Refutes rows vars s y × IsOver (pos s) (value_of b) (bound_of y rows))) c.in-Yes.is (c.in_ok-verdict.ensures.yes s y are)).0 in
    let none : AdmitsNone rows vars = subst (λ v. OnYes v (AdmitsNone rows vars)) c.in-Yes.is (c.in_ok-verdict.ensures.none c.requires.listed) in
    record { pass = pass; some = c.multiplier_laws.ensures.some; refutes = refutes; none = none }

pub returns-in-No-clause-found : goal.returns-in-No-clause-found
returns-in-No-clause-found c = λ found.
    let rows = c.args.rows.now in
    let vars = c.args.vars.now in
    let no : ¬ (Refutes rows vars found.over found.number) = subst (λ v. OnNo v (¬ (Refutes rows vars found.over found.number))) c.in-No.is (c.in_ok-verdict.ensures.no found.over found.number found.are) in
    absurd (no found.refutes)
