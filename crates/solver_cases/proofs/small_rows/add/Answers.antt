use Rattle.std.proofs.Common.{sym, subst}
use Rattle.std.proofs.lemmas.Result.{on_ok_weaker}
use Rattle.exact_num.specs.Value.{value_of}
use Rattle.solver_cases.specs.Programs.{AreKnown}
use Rattle.solver_cases.proofs.ProgramLaws.{known-with}
use Rattle.solver_cases.proofs.small_rows.add.Goals as goal

pub returns : goal.returns
returns c = record {
  known = λ third among known. on_ok_weaker c.add.result (λ e. subst (AreKnown third) (sym e) (known-with third c.args.variable (value_of c.ratio-coefficient.result) c.args.terms.now among known)) c.add.ensures.added;
}
