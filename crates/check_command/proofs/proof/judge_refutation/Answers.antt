use Rattle.check_command.proofs.Common.{List, Result, Ok, Err, sym, subst, IfOk-weaker, Row, Var, row_name_cmp, value_in, bound_value, infeasible_conditions, HasVariablesOf, IsBookOf, IsListedBook, NoneIsFeasible, book-of, listed-as, rows-named, vars-named, refutation_conditions, IsJudged}
use Rattle.std.specs.Prelude.{IfOk}
use Rattle.check_command.proofs.ProofLaws.{refutation-judged}
use Rattle.check_command.proofs.ProofNames.{refutation-sayable, verdict-within}
use Rattle.check_command.proofs.proof.judge_refutation.Goals as goal

ok-both : {A E : Type 0} (r : Result A E) (P Q R : A → Type 0) → ((a : A) → P a → Q a → R a) → IfOk r P → IfOk r Q → IfOk r R
ok-both (Ok a) P Q R both p q = both a p q
ok-both (Err e) P Q R both p q = tt

pub returns-clause-judged : goal.returns-clause-judged
returns-clause-judged c = λ places d book.
    let rows = c.rows.result.now in
    let vars = c.vars.result.now in
    let m = c.args.multipliers.now in
    let seen : IsBookOf places d rows vars = book-of places d _ _ rows vars c.rows.ensures.rows c.vars.ensures.variables book in
    let has : HasVariablesOf rows vars =
    subst (λ (rs : List Row). HasVariablesOf rs vars) (sym c.rows.ensures.rows) (subst (λ (vs : List Var). HasVariablesOf c.args.book.now.rows vs) (sym c.vars.ensures.variables) (λ v h. (c.rows.ensures.book.variables.each v).1 h)) in
    subst (λ (rs : List Row). IfOk c.check_infeasible.result (IsJudged (refutation_conditions d rs m) (NoneIsFeasible places d))) c.rows.ensures.rows
    (ok-both c.check_infeasible.result _ _ _ (λ verdict answer none. refutation-judged places d rows vars seen m (bound_value rows (value_in row_name_cmp m)) verdict answer none) c.check_infeasible.ensures.answer (c.check_infeasible.ensures.none has))

pub returns-clause-within : goal.returns-clause-within
returns-clause-within c = λ sets listed.
    let rows = c.rows.result.now in
    let vars = c.vars.result.now in
    let m = c.args.multipliers.now in
    let seen : IsListedBook sets rows vars = listed-as sets _ _ rows vars c.rows.ensures.rows c.vars.ensures.variables listed in
    IfOk-weaker c.check_infeasible.result _ _
    (λ verdict answer. verdict-within sets (infeasible_conditions rows vars m) (bound_value rows (value_in row_name_cmp m)) verdict (refutation-sayable sets rows vars (rows-named sets rows vars seen) (vars-named sets rows vars seen) m) answer)
    c.check_infeasible.ensures.answer
