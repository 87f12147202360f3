-- The loop ends at the first byte that is no blank, or at the end.
use Rattle.solver_answers.proofs.Common.{◌≡◌, ℕ, ◌<◌, ◌∙◌, true, get_or, length, sym, arith, prefix_len_is, is_blank, below_more}
use Rattle.solver_answers.proofs.words.blank_length.Goals as goal

pub loop-i-preserved : goal.loop-i-preserved
loop-i-preserved c =
    below_more (λ (k : ℕ). is_blank (get_or c.args.text.now k 0) ≡ true) c.loop-i.i c.loop-i.invariant (sym c.is_blank.ensures ∙ c.if-not-is_blank.false)

pub returns-then-not-is_blank-clause-first : goal.returns-then-not-is_blank-clause-first
returns-then-not-is_blank-clause-first c =
    sym (prefix_len_is is_blank c.args.text.now c.loop-i.i 0 (omega arith) c.loop-i.invariant (λ _. sym c.is_blank.ensures ∙ c.if-not-is_blank.true))

pub returns-clause-first : goal.returns-clause-first
returns-clause-first c =
    let all : (k : ℕ) → k < length c.args.text.now → is_blank (get_or c.args.text.now k 0) ≡ true = λ k l. c.loop-i.invariant k (omega arith) in
    sym (prefix_len_is is_blank c.args.text.now (length c.args.text.now) 0 (omega arith) all (λ l. absurd (omega arith)))
