use Rattle.mathprog_data.proofs.Common.{◌≡◌, Some, ap, ◌∙◌, sym, quiet, run}
use Rattle.mathprog_data.proofs.LexingQuiet.{run_quiet}
use Rattle.mathprog_data.proofs.lexer.Lexer.pass_quiet.Goals as goal

pub returns-in-Some-clause-passes : goal.returns-in-Some-clause-passes
returns-in-Some-clause-passes c r bytes =
    let found : quiet c.args.self.now.pending c.args.byte ≡ Some c.in-Some.pending =
    ap (λ s. quiet s.pending c.args.byte) (sym c.self.view_is) ∙ sym c.quiet.ensures.value ∙ c.in-Some.is in
    run_quiet c.args.self.now c.args.byte bytes c.in-Some.pending found ∙ ap (λ s. run s bytes) (sym c.pass.ensures)
