-- What comes after the last '/' of a path, found from its end.
use Rattle.std.proofs.Common.{◌≡◌, ◌∙◌, ◌||◌, ◌<◌, ◌-◌, arith, ℕ, zero, suc, Bool, true, false, List, [], ◌∷◌, drop, get_or, cond, refl, ap, sym, subst}
use Rattle.std.specs.List.{list_any}
use Rattle.result_pages.specs.FileNames.{is_slash, last_segment}

or_true : (a b : Bool) → b ≡ true → (a || b) ≡ true
or_true true b is = refl
or_true false b is = is

-- a '/' at a place is one of the path
has_slash : (path : List ℕ) (place : ℕ) → get_or path place 0 ≡ 47 → list_any is_slash path ≡ true
has_slash [] place at = absurd (omega (arith, at))
has_slash (byte ∷ path) zero at = subst (λ (b : ℕ). (is_slash b || list_any is_slash path) ≡ true) (sym at) refl
has_slash (byte ∷ path) (suc place) at = or_true (is_slash byte) (list_any is_slash path) (has_slash path place at)

-- without a '/' the whole is the name
whole : (path : List ℕ) → list_any is_slash path ≡ false → last_segment path ≡ path
whole [] none = refl
whole (byte ∷ path) none = ap (λ b. cond b (last_segment path) (byte ∷ path)) none

-- what follows a '/' and has none is the name
pub after_slash : (path : List ℕ) (place : ℕ) → get_or path place 0 ≡ 47 → list_any is_slash (drop (suc place) path) ≡ false → drop (suc place) path ≡ last_segment path
after_slash [] place at none = absurd (omega (arith, at))
after_slash (byte ∷ path) zero at none = sym (ap (λ b. cond b (last_segment path) (byte ∷ path)) (has_slash (byte ∷ path) zero at) ∙ whole path none)
after_slash (byte ∷ path) (suc place) at none =
    after_slash path place at none ∙ sym (ap (λ b. cond b (last_segment path) (byte ∷ path)) (has_slash (byte ∷ path) (suc place) at))

pub without_slash : (path : List ℕ) → list_any is_slash path ≡ false → path ≡ last_segment path
without_slash path none = sym (whole path none)

pub after_slash_at : (path : List ℕ) (start : ℕ) → 0 < start → get_or path (start - 1) 0 ≡ 47 → list_any is_slash (drop start path) ≡ false → drop start path ≡ last_segment path
after_slash_at path zero some at none = absurd (omega (arith, some))
after_slash_at path (suc place) some at none =
    let same : suc place - 1 ≡ place = omega arith in
    after_slash path place (subst (λ (k : ℕ). get_or path k 0 ≡ 47) same at) none
