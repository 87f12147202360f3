-- The loop ends at the first line feed, or at the end.
use Rattle.solver_answers.proofs.Common.{◌≡◌, ℕ, ◌<◌, false, get_or, length, sym, arith, eq-eqb, ne_eqb, position_or_len_is, ends_line, below_more}
use Rattle.solver_answers.proofs.words.line_length.Goals as goal

pub loop-i-preserved : goal.loop-i-preserved
loop-i-preserved c =
    below_more (λ (k : ℕ). ends_line (get_or c.args.text.now k 0) ≡ false) c.loop-i.i c.loop-i.invariant (ne_eqb _ _ c.if-text-i-eq10.false)

pub returns-then-text-i-eq10-clause-first : goal.returns-then-text-i-eq10-clause-first
returns-then-text-i-eq10-clause-first c =
    sym (position_or_len_is ends_line c.args.text.now c.loop-i.i 0 (omega arith) c.loop-i.invariant (λ _. eq-eqb _ _ c.if-text-i-eq10.true))

pub returns-clause-first : goal.returns-clause-first
returns-clause-first c =
    let all : (k : ℕ) → k < length c.args.text.now → ends_line (get_or c.args.text.now k 0) ≡ false = λ k l. c.loop-i.invariant k (omega arith) in
    sym (position_or_len_is ends_line c.args.text.now (length c.args.text.now) 0 (omega arith) all (λ l. absurd (omega arith)))
