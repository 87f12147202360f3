-- The one place of a name among the names of several lists, one after another.
use Rattle.proof_files.proofs.Common.{◌≡◌, ℕ, ◌+◌, ◌-◌, ◌<◌, List, [], ◌++◌, length, get_or, Some, None, inl, inr, refl, sym, ap, ◌∙◌, subst, arith, get_or-append-add, get_or-append_right, get_or_append_left, length-append, Fields, IsEntry}
use Rattle.std.proofs.lemmas.Bool.{cases_lt}

module _ (a b : List Fields) (name : Fields) where
  -- where the name stands among both, it stands in one of them
  in_both : (P : ℕ → Type 0) → ((j : ℕ) → j < length a → get_or a j [] ≡ name → P j) → ((j : ℕ) → j < length b → get_or b j [] ≡ name → P (length a + j))
      → (j : ℕ) → j < length (a ++ b) → get_or (a ++ b) j [] ≡ name → P j
  in_both P first second j l e = elim (cases_lt j (length a)) [
    | inl below ↦ first j below (sym (get_or_append_left a b [] j below) ∙ e)
    | inr above ↦
        let back : length a + (j - length a) ≡ j = omega arith in
        let inside : j - length a < length b = omega (arith, length-append a b) in
        subst P back (second (j - length a) inside (sym (get_or-append_right a b (length a) j [] refl above) ∙ e))
  ]

  pub entry_none : IsEntry a name None → IsEntry b name None → IsEntry (a ++ b) name None
  entry_none in_a in_b = in_both (λ _. ⊥) in_a in_b

  pub entry_first : (i : ℕ) → IsEntry a name (Some i) → IsEntry b name None → IsEntry (a ++ b) name (Some i)
  entry_first i in_a in_b = (
    omega (arith, in_a.0, length-append a b),
    get_or_append_left a b [] i in_a.0 ∙ in_a.1,
    in_both (λ j. j ≡ i) in_a.2 (λ j l e. absurd (in_b j l e)),
  )

  pub entry_second : (i : ℕ) → IsEntry a name None → IsEntry b name (Some i) → IsEntry (a ++ b) name (Some (length a + i))
  entry_second i in_a in_b = (
    omega (arith, in_b.0, length-append a b),
    get_or-append-add a b i [] ∙ in_b.1,
    in_both (λ j. j ≡ length a + i) (λ j l e. absurd (in_a j l e)) (λ j l e. ap (λ k. length a + k) (in_b.2 j l e)),
  )
