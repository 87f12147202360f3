-- A cost that is its bound is within any gap of it, and no other numbers are formed to see that.
use Rattle.command_answers.proofs.Common.{◌≡◌, ℕ, ℤ, pos, ◌-ℤ◌, ◌*ℤ◌, Bool, true, false, refl, sym, ◌∙◌, subst, arith, ints, all_fit, Rational, minus, IsClosed, IsNear}
use Rattle.std.specs.Prelude.{◌<ℤ◌, ◌≤ℤ◌, int_lt}
use Rattle.exact_num.specs.Formed.{difference_formed}
use Rattle.exact_num.proofs.Integers.{*ℤ_pos}
use Rattle.row_core.proofs.SumLaws.{IsOver-ratio}
use Rattle.certificate_checker.proofs.GapLaws.{gap_passes_below, gap_wide_at_once}
use Rattle.certificate_checker.proofs.OverLaws.{over_nonpositive}

-- the difference fits, since it is formed at no gap too
difference-fits : (cost bound : Rational) → IsClosed cost bound → all_fit (difference_formed cost bound) ≡ true
difference-fits cost bound closed = by (all_fit (difference_formed cost bound)) refl
  where
    by : (b : Bool) → all_fit (difference_formed cost bound) ≡ b → b ≡ true
    by true is = refl
    by false is = absurd (cc (sym closed.pass.fit ∙ gap_wide_at_once cost bound 0 is))

nothing_apart : (z : ℤ) → (z -ℤ z) ≤ℤ pos 0
nothing_apart z = omega (arith, ints)

-- and isn't above 0
difference-below : (c : Rational) → pos 0 <ℤ c.bottom → (minus c c).top ≤ℤ pos 0
unfolding minus
difference-below c positive =
    let apart : ℤ = (c.top *ℤ c.bottom) -ℤ (c.top *ℤ c.bottom) in
    let square : pos 0 <ℤ (c.bottom *ℤ c.bottom) = *ℤ_pos c.bottom c.bottom positive positive in
    (over_nonpositive (c.bottom *ℤ c.bottom) (minus c c) apart square (IsOver-ratio apart (c.bottom *ℤ c.bottom) square)).1 (nothing_apart (c.top *ℤ c.bottom))

not_above : (z : ℤ) → z ≤ℤ pos 0 → int_lt (pos 0) z ≡ false
not_above z h = grind (arith, ints)

pub closed-near : (cost bound : Rational) (gap : ℕ) → pos 0 <ℤ cost.bottom → IsClosed cost bound → IsNear cost bound gap
closed-near cost bound gap paid closed =
    let below : (minus cost bound).top ≤ℤ pos 0 = subst (λ (b : Rational). (minus cost b).top ≤ℤ pos 0) closed.same (difference-below cost paid) in
    let bounded : pos 0 <ℤ bound.bottom = subst (λ (b : Rational). pos 0 <ℤ b.bottom) closed.same paid in
    record {
      pass = gap_passes_below cost bound gap paid bounded (difference-fits cost bound closed) below (not_above (minus cost bound).top below);
      within = closed.within gap;
    }
