use Rattle.mathprog_data.proofs.Common.{◌≡◌, true, ap, ◌∙◌, sym, Token, is_separator, token_of, passed, run, and_then}
use Rattle.mathprog_data.specs.declared.lexer.Kind.TheVariants.{Bare}
use Rattle.mathprog_data.specs.declared.lexer.pending.Pending.TheVariants as pendings
use Rattle.mathprog_data.proofs.LexingQuiet.{run_ended}
use Rattle.mathprog_data.proofs.lexer.Lexer.end_symbol.Goals as goal

pub returns-in-Bare-clause-passes : goal.returns-in-Bare-clause-passes
returns-in-Bare-clause-passes c bytes =
    let bare : c.args.self.now.pending ≡ pendings.Bare = ap (λ s. s.pending) (sym c.self.view_is) ∙ c.in-Bare.is in
    let ends : is_separator c.args.byte ≡ true = sym c.is_separator.ensures ∙ c.if-is_separator.true in
    run_ended c.args.self.now c.args.byte bytes bare ends
    ∙ ap (λ s. and_then (token_of s Bare) (run (passed c.args.self.now c.args.byte pendings.Gap) bytes)) (sym c.self.view_is)
    ∙ ap (λ s. and_then (Token record { kind = Bare; from = c.self.inside.from; to = c.self.inside.place; at = c.self.inside.start }) (run s bytes)) (sym c.pass.ensures)
