-- Digit by digit.
use Rattle.std.proofs.Common.{◌≡◌, ℕ, zero, suc, ◌+◌, ◌-◌, ◌/◌, ◌%◌, ◌<◌, ◌^◌, List, [], ◌∷◌, ◌++◌, sym, ap, subst, ◌∙◌, append_assoc, arith}
use Rattle.std.proofs.lemmas.Result.{on_ok_weaker}
use Rattle.discount_factors.proofs.ClosenessLaws.{power_pos}
use Rattle.data_tables.specs.WorthTables.{last_digits}
use Rattle.data_tables.proofs.WalkLaws.{append_none}
use Rattle.data_tables.proofs.worth.+push_digits.Goals as goal

pub returns-then-places-eq0 : goal.returns-then-places-eq0
returns-then-places-eq0 t c = sym (ap (λ p. c.args.out.now.items ++ last_digits p c.args.n) c.if-places-eq0.true ∙ append_none c.args.out.now.items)

pub nonzero_div-n : goal.nonzero_div-n
nonzero_div-n t c = subst (λ k. 0 < k) (sym c.pow-divisor.ensures) (power_pos 10 c.from.result (omega arith))

-- the first digit, and the others
first : (places n : ℕ) → 0 < places → last_digits places n ≡ (48 + n / 10 ^ (places - 1) % 10) ∷ last_digits (places - 1) n
first zero n h = absurd (omega (arith, h))
first (suc places) n h =
    let one_less : suc places - 1 ≡ places = omega arith in
    sym (ap (λ k. (48 + n / 10 ^ k % 10) ∷ last_digits k n) one_less)

pub returns : goal.returns
returns t c =
    let places : ℕ = c.args.places in
    let out : List ℕ = c.args.out.now.items in
    let divisor : c.pow-divisor.result ≡ 10 ^ (places - 1) = c.pow-divisor.ensures ∙ ap (λ k. 10 ^ k) c.from.ensures in
    let digit : c.push.new.self.items ≡ out ++ (48 + c.args.n / 10 ^ (places - 1) % 10) ∷ [] = c.in_ok-push.ensures.items ∙ ap (λ k. out ++ (48 + c.args.n / k % 10) ∷ []) divisor in
    let some : 0 < places = omega (arith, c.if-places-eq0.false) in
    on_ok_weaker c.push_digits.result
    (λ written.
    written ∙ ap (λ t. t ++ last_digits (places - 1) c.args.n) digit
    ∙ append_assoc out ((48 + c.args.n / 10 ^ (places - 1) % 10) ∷ []) (last_digits (places - 1) c.args.n)
    ∙ ap (λ t. out ++ t) (sym (first places c.args.n some)))
    c.push_digits.ensures
