use Rattle.mathprog_data.proofs.Common.{◌≡◌, true, ap, ◌∙◌, rules, sym, is_symbol_byte, run}
use Rattle.mathprog_data.specs.declared.lexer.pending.Pending.TheVariants as pendings
use Rattle.mathprog_data.proofs.LexingQuiet.{run_begun, run_symbol}
use Rattle.mathprog_data.proofs.lexer.Lexer.pass_over.Goals as goal

pub returns-in-Bare-clause-passes : goal.returns-in-Bare-clause-passes
returns-in-Bare-clause-passes c r bytes =
    let bare : c.args.self.now.pending ≡ pendings.Bare = ap (λ s. s.pending) (sym c.self.view_is) ∙ c.in-Bare.is in
    let symbol : is_symbol_byte c.args.byte ≡ true = sym c.pass_symbol_byte.ensures.value ∙ r in
    run_symbol c.args.self.now c.args.byte bytes bare symbol ∙ ap (λ s. run s bytes) (sym (c.pass_symbol_byte.ensures.passes r))

pub returns-clause-passes : goal.returns-clause-passes
returns-clause-passes c r bytes =
    let gap : c.args.self.now.pending ≡ pendings.Gap = ap (λ s. s.pending) (sym c.self.view_is) ∙ c.in-Gap.is in
    let symbol : is_symbol_byte c.args.byte ≡ true = search rules in
    run_begun c.args.self.now c.args.byte bytes gap symbol ∙ ap (λ s. run s bytes) (sym c.begin.ensures)
