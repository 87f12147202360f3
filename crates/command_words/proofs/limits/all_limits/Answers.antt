-- Text by text.
use Rattle.command_words.proofs.Common.{◌≡◌, ◌∙◌, ◌+◌, ◌++◌, ◌<◌, ℕ, ℤ, List, [], ◌∷◌, Bor, length, map, drop, sym, ap, slice_index_or, at_drop_more, at_drop_all, limit_of}
use Rattle.exact_num.proofs.RangeLaws.{back_in_range}
use Rattle.command_words.proofs.LimitLaws.{limit_in_range}
use Rattle.command_words.proofs.LimitTurns.{read_after, read_end, read_more, read_none}
use Rattle.command_words.proofs.limits.all_limits.Goals as goal

-- what is left begins with the text at this place
next : (so_far : List ℤ) (texts : List (Bor (List ℕ))) (i : ℕ) → i < length texts
    → read_after limit_of so_far (map (λ text. text.now) (drop i texts))
    ≡ read_after limit_of so_far ((slice_index_or texts i (record { ref_ptr = (0, 0); now = [] })).now ∷ map (λ text. text.now) (drop (i + 1) texts))
next so_far texts i within = at_drop_more (λ left. read_after limit_of so_far (map (λ text. text.now) left)) texts i (record { ref_ptr = (0, 0); now = [] }) within

pub returns-in_default : goal.returns-in_default
returns-in_default c =
    let i = c.loop-text.text-index in
    let so_far = c.loop-text.limits.items in
    sym (c.loop-text.invariant ∙ next so_far c.args.texts.now i c.loop-text-test.true
    ∙ read_none limit_of so_far _ (map (λ text. text.now) (drop (i + 1) c.args.texts.now)) (sym c.limit_of.ensures ∙ c.in_default.is))

pub loop-text-preserved : goal.loop-text-preserved
loop-text-preserved c =
    let i = c.loop-text.text-index in
    let so_far = c.loop-text.limits.items in
    let left = map (λ text. text.now) (drop (i + 1) c.args.texts.now) in
    let is = sym c.limit_of.ensures ∙ c.in-Some.is in
    c.loop-text.invariant ∙ next so_far c.args.texts.now i c.loop-text-test.true
    ∙ read_more limit_of so_far _ c.in-Some.limit left is
    ∙ ap (λ limit. read_after limit_of (so_far ++ limit ∷ []) left) (sym (back_in_range c.in-Some.limit (limit_in_range _ c.in-Some.limit is)))
    ∙ ap (λ items. read_after limit_of items left) (sym c.in_ok-push.ensures.items)

pub returns : goal.returns
returns c =
    let so_far = c.loop-text.limits.items in
    sym (c.loop-text.invariant ∙ at_drop_all (λ left. read_after limit_of so_far (map (λ text. text.now) left)) c.args.texts.now c.loop-text.text-index c.loop-text-test.false ∙ read_end limit_of so_far)
