use Rattle.std.proofs.Common.{◌≡◌, List, refl, sym, subst, inl, inr}
use Rattle.std.proofs.lemmas.Result.{IfOk-weaker}
use Rattle.exact_num.specs.Rational.{Rational}
use Rattle.row_core.specs.declared.Var.{Var}
use Rattle.row_core.specs.Numbers.{variables_of}
use Rattle.row_core.specs.Written.{kept}
use Rattle.written_method.specs.Ready.{AreAmong}
use Rattle.solver_cases.specs.Programs.{variables, AreKnown}
use Rattle.solver_cases.proofs.ProgramLaws.{among-known, known-kept}
use Rattle.solver_cases.proofs.small_rows.row.Goals as goal

pub returns : goal.returns
returns c =
    let third : Var = c.args.third in
    let ts : List (Var × Rational) = c.add-3.new.terms in
    let known : AreKnown third ts = c.in_ok-add-3.ensures.known third (inr (inr (inl refl))) (c.in_ok-add-2.ensures.known third (inr (inl refl)) (c.in_ok-add.ensures.known third (inl refl) (subst (AreKnown third) (sym c.new-terms.ensures) tt))) in
    IfOk-weaker c.write_row.result (λ row. variables_of row.entries.items ≡ variables_of (kept ts)) (λ row. AreAmong (variables third) row.entries.items)
    (λ row h. among-known third row.entries.items (kept ts) h (known-kept third ts known))
    c.write_row.ensures.variables
