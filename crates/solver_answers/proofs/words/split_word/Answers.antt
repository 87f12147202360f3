-- The first word stands after the blanks, before the next blank or the end.
use Rattle.solver_answers.proofs.Common.{◌∙◌, ◌<◌, ◌∷◌, List, ℕ, drop, length, sym, ap, arith, eqb-true, eqb-false, nil_from_length, Word, words}
use Rattle.solver_answers.proofs.WordLaws.{after_all_blanks, first_word, no_words, word_begins}
use Rattle.solver_answers.proofs.words.split_word.Goals as goal

pub returns-then-is_empty : goal.returns-then-is_empty
returns-then-is_empty c =
    let begun : List ℕ = c.split_at.result.1.now in
    let none = eqb-true (length begun) 0 (sym c.is_empty.ensures ∙ c.if-is_empty.true) in
    after_all_blanks c.args.line.now begun c.blank_length.result c.blank_length.ensures.first c.split_at.ensures.back ∙ ap words (nil_from_length begun none) ∙ no_words

pub returns : goal.returns
returns c =
    let begun : List ℕ = c.split_at.result.1.now in
    let some = eqb-false (length begun) 0 (sym c.is_empty.ensures ∙ c.if-is_empty.false) in
    let long : 0 < length begun = omega (arith, some) in
    let first : Word = c.split_at-2.result.0.now in
    let cut = first_word begun c.word_length.result c.word_length.ensures.first long (word_begins c.args.line.now begun c.blank_length.result c.blank_length.ensures.first c.split_at.ensures.back long) in
    after_all_blanks c.args.line.now begun c.blank_length.result c.blank_length.ensures.first c.split_at.ensures.back
    ∙ cut
    ∙ ap (λ (w : Word). w ∷ words (drop c.word_length.result begun)) (sym c.split_at-2.ensures.front)
    ∙ ap (λ (rest : List ℕ). first ∷ words rest) (sym c.split_at-2.ensures.back)
