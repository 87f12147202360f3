use Rattle.discount_factors.proofs.Common.{◌≡◌, ◌+◌, ◌*◌, ◌/◌, ◌^◌, ◌++◌, [], ◌∷◌, suc, length, sym, ap, ◌∙◌, subst, arith, length-append, discounted, AreDiscounted}
use Rattle.discount_factors.proofs.ValueLaws.{discounted-first, discounted-more}
use Rattle.discount_factors.proofs.Tables.{AreDiscounted-more}
use Rattle.discount_factors.proofs.values.discounted_values.Goals as goal

pub loop-init : goal.loop-init
loop-init c =
    let first = sym (discounted-first c.args.rate) in
    let items : c.push.new.self.items ≡ [] ++ 10 ^ 18 ∷ [] = c.in_ok-push.ensures.items ∙ ap (λ values. values ++ 10 ^ 18 ∷ []) c.in_ok-values.ensures.items in
    let none : AreDiscounted c.args.rate [] = λ k within. absurd (omega arith) in
    (ap length items, first, subst (AreDiscounted c.args.rate) (sym items) (AreDiscounted-more c.args.rate (10 ^ 18) [] none first))

pub loop-preserved : goal.loop-preserved
loop-preserved c =
    let rate = c.args.rate in
    let value = c.one_year_later-value.result in
    let values = c.loop.values.items in
    let items : c.push-in-loop.new.self.items ≡ values ++ value ∷ [] = c.in_ok-push-2.ensures.items in
    let count : length (values ++ value ∷ []) ≡ length values + 1 = length-append values (value ∷ []) in
    let more : suc c.loop.counter ≡ c.loop.counter + 1 = omega arith in
    let next : value ≡ discounted rate (c.loop.counter + 1) =
    c.one_year_later-value.ensures ∙ ap (λ k. k * 10 ^ 9 / (10 ^ 9 + rate)) c.loop.invariant.1 ∙ sym (discounted-more rate c.loop.counter) ∙ ap (discounted rate) more in
    let last : value ≡ discounted rate (length values) = next ∙ ap (discounted rate) (sym c.loop.invariant.0) in
    (ap length items ∙ count ∙ ap (λ k. k + 1) c.loop.invariant.0, next, subst (AreDiscounted rate) (sym items) (AreDiscounted-more rate value values c.loop.invariant.2 last))
