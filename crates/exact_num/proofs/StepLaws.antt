-- Lists of formed numbers and lists of steps, taken apart and joined.
use Rattle.exact_num.proofs.Common.{◌≡◌, ℤ, Bool, true, false, ◌&&◌, List, [], ◌∷◌, ◌++◌, Option, Some, None, refl, ap, sym, ◌∙◌, cond, is_none, flat_map, in_range, all_fit, Step, first_wide}
use Rattle.std.specs.Option.{option_or}

pub all_fit-nil : all_fit [] ≡ true
unfolding all_fit
all_fit-nil = refl

pub all_fit-cons : (z : ℤ) (zs : List ℤ) → all_fit (z ∷ zs) ≡ (in_range z && all_fit zs)
unfolding all_fit
all_fit-cons z zs = refl

pub all_fit-append : (xs ys : List ℤ) → all_fit (xs ++ ys) ≡ (all_fit xs && all_fit ys)
unfolding all_fit
all_fit-append [] ys = refl
all_fit-append (x ∷ xs) ys = ap (λ b. in_range x && b) (all_fit-append xs ys) ∙ sym (and_assoc (in_range x) (all_fit xs) (all_fit ys))
  where
    and_assoc : (a b c : Bool) → ((a && b) && c) ≡ (a && (b && c))
    and_assoc true b c = refl
    and_assoc false b c = refl

pub first_wide-nil : {P : Type 0} → first_wide {P = P} [] ≡ None
unfolding first_wide
first_wide-nil = refl

-- a step that fits is passed over, and one that doesn't is the answer
pub first_wide-fits : {P : Type 0} (s : Step P) (ss : List (Step P)) → all_fit s.formed ≡ true → first_wide (s ∷ ss) ≡ first_wide ss
unfolding first_wide
first_wide-fits s ss h = ap (λ b. cond b (first_wide ss) (Some s.place)) h

pub first_wide-stops : {P : Type 0} (s : Step P) (ss : List (Step P)) → all_fit s.formed ≡ false → first_wide (s ∷ ss) ≡ Some s.place
unfolding first_wide
first_wide-stops s ss h = ap (λ b. cond b (first_wide ss) (Some s.place)) h

-- joined lists: the first list's place, else the second's
pub first_wide-append : {P : Type 0} (ss ts : List (Step P)) → first_wide (ss ++ ts) ≡ option_or (first_wide ss) (first_wide ts)
unfolding first_wide
first_wide-append [] ts = refl
first_wide-append (s ∷ ss) ts = passed (all_fit s.formed) s.place (first_wide (ss ++ ts)) (first_wide ss) (first_wide ts) (first_wide-append ss ts)
  where
    passed : {P : Type 0} (b : Bool) (p : P) (o q r : Option P) → o ≡ option_or q r → cond b o (Some p) ≡ option_or (cond b q (Some p)) r
    passed true p o q r e = e
    passed false p o q r e = refl

-- there is no such place exactly where every number of every step fits
pub first_wide-none : {P : Type 0} (ss : List (Step P)) → is_none (first_wide ss) ≡ all_fit (flat_map (λ s. s.formed) ss)
unfolding first_wide
first_wide-none [] = sym all_fit-nil
first_wide-none (s ∷ ss) = none (all_fit s.formed) s.place (first_wide ss) (first_wide-none ss) ∙ sym (all_fit-append s.formed (flat_map (λ s. s.formed) ss))
  where
    none : {P : Type 0} (b : Bool) (p : P) (o : Option P) {c : Bool} → is_none o ≡ c → is_none (cond b o (Some p)) ≡ (b && c)
    none true p o e = e
    none false p o e = refl

-- a list of formed numbers one by one, and a list of steps likewise
pub ruleset formed = (all_fit-nil, all_fit-cons)

pub ruleset steps = (all_fit-nil, all_fit-cons, first_wide-nil, first_wide-fits, first_wide-stops)
