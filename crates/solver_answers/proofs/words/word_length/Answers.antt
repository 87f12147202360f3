-- The loop ends at the first blank, or at the end.
use Rattle.solver_answers.proofs.Common.{◌≡◌, ℕ, ◌<◌, ◌∙◌, false, get_or, length, sym, arith, position_or_len_is, is_blank, below_more}
use Rattle.solver_answers.proofs.words.word_length.Goals as goal

pub loop-i-preserved : goal.loop-i-preserved
loop-i-preserved c =
    below_more (λ (k : ℕ). is_blank (get_or c.args.text.now k 0) ≡ false) c.loop-i.i c.loop-i.invariant (sym c.is_blank.ensures ∙ c.if-is_blank.false)

pub returns-then-is_blank-clause-first : goal.returns-then-is_blank-clause-first
returns-then-is_blank-clause-first c =
    sym (position_or_len_is is_blank c.args.text.now c.loop-i.i 0 (omega arith) c.loop-i.invariant (λ _. sym c.is_blank.ensures ∙ c.if-is_blank.true))

pub returns-clause-first : goal.returns-clause-first
returns-clause-first c =
    let all : (k : ℕ) → k < length c.args.text.now → is_blank (get_or c.args.text.now k 0) ≡ false = λ k l. c.loop-i.invariant k (omega arith) in
    sym (position_or_len_is is_blank c.args.text.now (length c.args.text.now) 0 (omega arith) all (λ l. absurd (omega arith)))
