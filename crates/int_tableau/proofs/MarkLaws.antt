-- Marks of the columns of entries.
use Rattle.int_tableau.proofs.Common.{◌≡◌, ℕ, zero, suc, ◌+◌, ◌<◌, ◌≤◌, ℤ, pos, ◌+ℤ◌, Bool, true, false, List, [], ◌∷◌, length, get_or, set, take, arith, refl, sym, ap, ◌∙◌, subst, add-one, inl, inr, eqb-true, get_or-set_same, get_or-set_other, same_or_not, only, at, entries_negated, mark_of, AreMarked}
use Rattle.std.specs.Prelude.{◌==◌, ◌%◌}

-- a column without a mark has no entry
pub unmarked : (marks : List Bool) (es : List (ℕ × ℤ)) (c : ℕ) → AreMarked marks es → mark_of marks c ≡ false → at es c ≡ pos 0
unmarked marks [] c w e = refl
unmarked marks (x ∷ es) c w e = cases (x.0 == c) refl (unmarked marks es c w.1 e)
  where
    cases : (t : Bool) → (x.0 == c) ≡ t → at es c ≡ pos 0 → only t x.1 +ℤ at es c ≡ pos 0
    cases true h rest = absurd (other (subst (λ d. mark_of marks d ≡ true) (eqb-true x.0 c h) w.0))
      where
        other : mark_of marks c ≡ true → ⊥
        other k = cc (k, e)
    cases false h rest = ap (λ z. pos 0 +ℤ z) rest

-- one mark more
pub marked-set : {N : Type 0} (marks : List Bool) (k : ℕ) (es : List (ℕ × N)) → k < length marks → AreMarked marks es → AreMarked (set marks k true) es
marked-set marks k [] h w = tt
marked-set marks k (e ∷ es) h w = (mark-set marks k (e.0 % 256) h w.0, marked-set marks k es h w.1)
  where
    mark-set : (marks : List Bool) (k c : ℕ) → k < length marks → get_or marks c false ≡ true → get_or (set marks k true) c false ≡ true
    mark-set marks k c h w = elim (same_or_not c k) [
      | inl e ↦ subst (λ i. get_or (set marks k true) i false ≡ true) (sym e) (get_or-set_same marks k true false h)
      | inr n ↦ get_or-set_other marks k c true false n ∙ w
    ]

marked-suc : {N : Type 0} (marks : List Bool) (es : List (ℕ × N)) (i : ℕ) (d : ℕ × N) → i < length es → AreMarked marks (take i es) → mark_of marks (get_or es i d).0 ≡ true → AreMarked marks (take (suc i) es)
marked-suc marks [] i d h w k = absurd (omega arith)
marked-suc marks (e ∷ es) zero d h w k = (k, tt)
marked-suc marks (e ∷ es) (suc i) d h w k = (w.0, marked-suc marks es i d (omega arith) w.1 k)

-- one entry more
pub marked-more : {N : Type 0} (marks : List Bool) (es : List (ℕ × N)) (i : ℕ) (d : ℕ × N) → i < length es → length marks ≡ 256 → AreMarked marks (take i es)
    → AreMarked (set marks ((get_or es i d).0 % 256) true) (take (i + 1) es)
marked-more marks es i d h many w =
    let k : ℕ = (get_or es i d).0 % 256 in
    let below : k < length marks = omega arith in
    subst (λ n. AreMarked (set marks k true) (take n es)) (sym (add-one i))
    (marked-suc (set marks k true) es i d h (marked-set marks k (take i es) below w) (get_or-set_same marks k true false below))

pub all-marked : {N : Type 0} (marks : List Bool) (es : List (ℕ × N)) (i : ℕ) → length es ≤ i → AreMarked marks (take i es) → AreMarked marks es
all-marked marks [] i h w = tt
all-marked marks (e ∷ es) zero h w = absurd (omega arith)
all-marked marks (e ∷ es) (suc i) h w = (w.0, all-marked marks es i (omega arith) w.1)

pub take-marked : (marks : List Bool) (es : List (ℕ × ℤ)) (i : ℕ) → AreMarked marks es → AreMarked marks (take i es)
take-marked marks es zero w = tt
take-marked marks [] (suc i) w = tt
take-marked marks (e ∷ es) (suc i) w = (w.0, take-marked marks es i w.1)

pub negated-marked : (marks : List Bool) (es : List (ℕ × ℤ)) → AreMarked marks es → AreMarked marks (entries_negated es)
negated-marked marks [] w = tt
negated-marked marks (e ∷ es) w = (w.0, negated-marked marks es w.1)
