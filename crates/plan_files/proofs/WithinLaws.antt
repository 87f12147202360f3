-- Subscripts that a kind or an equation has, and what holds of each of a list.
use Rattle.plan_files.proofs.Common.{◌≡◌, ℕ, Bool, true, false, ◌||◌, List, [], ◌∷◌, map, refl, sym, subst, arith, nat_eq, AllByRecursion, list_any, SetLists, Index, IsWithin, HasSubscriptsWithin, has_at, places}
use Rattle.std.proofs.lemmas.Bool.Decides.{nat_tests}

same_number : (p q : ℕ) → nat_eq p q ≡ true → p ≡ q
same_number p q h = grind (arith, nat_tests)

pub within_at : (sets : SetLists) (i : Index) (places : List ℕ) → AllByRecursion (IsWithin sets i) places → (p : ℕ) → list_any (nat_eq p) places ≡ true → IsWithin sets i p
within_at sets i [] all p h = absurd (cc h)
within_at sets i (q ∷ places) all p h = cases (nat_eq p q) refl (within_at sets i places all.1 p) h
  where
    cases : (b : Bool) → nat_eq p q ≡ b → (list_any (nat_eq p) places ≡ true → IsWithin sets i p) → (b || list_any (nat_eq p) places) ≡ true → IsWithin sets i p
    cases true is later h = subst (IsWithin sets i) (sym (same_number p q is)) all.0
    cases false is later h = later h

-- the subscripts at all places, by a list of answers
pub within_places : (sets : SetLists) (has : ℕ → Bool) (i : Index) (answers : List Bool) → answers ≡ map has places → ((place : ℕ) → has place ≡ true → IsWithin sets i place) → HasSubscriptsWithin sets (has_at answers) i
within_places sets has i answers is within =
    subst (λ hs. HasSubscriptsWithin sets (has_at hs) i) (sym is) (within 0, (within 1, (within 2, (within 3, (within 4, (within 5, (within 6, (within 7, tt))))))))
