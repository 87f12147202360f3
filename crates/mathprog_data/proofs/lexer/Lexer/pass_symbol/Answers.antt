use Rattle.mathprog_data.proofs.Common.{◌≡◌, ◌++◌, drop, take, ap, ◌∙◌, sym, symbols_passed, run, place_after}
use Rattle.mathprog_data.specs.declared.lexer.pending.Pending.TheVariants as pendings
use Rattle.mathprog_data.proofs.LexingSymbols.{run_symbols, place_symbols, further}
use Rattle.mathprog_data.proofs.lexer.Lexer.pass_symbol.Goals as goal

pub returns-in-Bare-clause-passes : goal.returns-in-Bare-clause-passes
returns-in-Bare-clause-passes c more =
    let rest = c.args.rest.now in
    let bare : c.args.self.now.pending ≡ pendings.Bare = ap (λ s. s.pending) (sym c.self.view_is) ∙ c.in-Bare.is in
    run_symbols rest more c.args.self.now bare
    ∙ ap (λ n. run (symbols_passed c.args.self.now n) (drop n rest ++ more)) (sym c.pass_symbol_bytes.ensures.count)
    ∙ ap (λ s. run s (drop c.pass_symbol_bytes.result rest ++ more)) (sym c.pass_symbol_bytes.ensures.state)

pub returns-in-Bare-clause-mark : goal.returns-in-Bare-clause-mark
returns-in-Bare-clause-mark c front before =
    let rest = c.args.rest.now in
    ap (λ s. s.mark) c.pass_symbol_bytes.ensures.state
    ∙ ap (λ m. further m c.pass_symbol_bytes.result) before
    ∙ ap (further (place_after front)) c.pass_symbol_bytes.ensures.count
    ∙ sym (place_symbols rest front)
    ∙ ap (λ n. place_after (front ++ take n rest)) (sym c.pass_symbol_bytes.ensures.count)
