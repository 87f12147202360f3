-- A form without a variable: its variables ascend, and it has no number at the variable, nor where neither of the two has one.
use Rattle.variable_elimination.proofs.Common.{◌≡◌, ℕ, ◌<◌, ℤ, pos, ◌*ℤ◌, Bool, true, false, List, [], ◌∷◌, ◌++◌, sym, ap, ap₂, ◌∙◌, arith, if◌then◌else◌, unsigned_abs, ⊤, Ordering, ints, common, gcd_of-dvd_left, gcd_of-dvd_right, int_div-mul, *ℤ_cancel, nonzero_of_pos, products, zero-*ℤ, *ℤ-zero, Var, Beside, left_only, right_only, all_right_only, first_beside, beside, less, lessened, undivided_entries, undivided_right, divisor_by, row_factor, def_factor, combined, Form, is_zero, numbers_of, variables_of, ascends, var_cmp, number_at, alone, row_sum-alone}
use Rattle.std.specs.declared.cmp.Ordering.TheVariants.{Less, Equal, Greater}
use Rattle.exact_num.specs.Gcd.{gcd_of}
use Rattle.row_core.specs.Written.{entries_divided}
use Rattle.row_core.proofs.LessenedLaws.{row_sum-lessened, ascends-beside, ascends-lessened}
use Rattle.row_core.proofs.WrittenLaws.{row_divisor-is, row_sum-divided, variables_of-divided}

abbrev pub Ascends : List (Var × ℤ) → Type 0
Ascends es = ascends var_cmp (variables_of es) ≡ true

module _ (form def : Form) (v : Var) where
  abbrev a : ℤ
  a = row_factor form def v

  abbrev b : ℤ
  b = def_factor form def v

  abbrev made : List (Var × ℤ)
  made = undivided_entries a b form def

  pub combined-ascends : Ascends form.entries → Ascends def.entries → Ascends (combined form def v).entries
  combined-ascends h k =
      ap (ascends var_cmp) (variables_of-divided (divisor_by a b form def) made)
      ∙ ascends-lessened a b (beside form.entries def.entries) (ascends-beside form.entries def.entries h k)

  combined-number : Ascends form.entries → Ascends def.entries → (w : Var) → number_at (combined form def v).entries w *ℤ pos (divisor_by a b form def) ≡ less a b (number_at form.entries w) (number_at def.entries w)
  combined-number h k w =
      ap (λ z. z *ℤ pos (divisor_by a b form def)) (sym (row_sum-alone w (combined form def v).entries (combined-ascends h k)))
      ∙ row_sum-divided (divisor_by a b form def) (alone w) made (row_divisor-is (undivided_right a b form def ∷ numbers_of made)).1.1
      ∙ row_sum-lessened (alone w) a b form.entries def.entries
      ∙ ap₂ (less a b) (row_sum-alone w form.entries h) (row_sum-alone w def.entries k)

  nothing : (n : ℤ) → n *ℤ pos (divisor_by a b form def) ≡ pos 0 → n ≡ pos 0
  nothing n h =
      let size : 0 < divisor_by a b form def = (row_divisor-is (undivided_right a b form def ∷ numbers_of made)).0 in
      *ℤ_cancel n (pos 0) (pos (divisor_by a b form def)) (nonzero_of_pos (pos (divisor_by a b form def)) (omega (arith, ints))) (h ∙ sym (zero-*ℤ (pos (divisor_by a b form def))))

  -- where neither has a number
  pub combined-none : Ascends form.entries → Ascends def.entries → (w : Var) → number_at form.entries w ≡ pos 0 → number_at def.entries w ≡ pos 0 → number_at (combined form def v).entries w ≡ pos 0
  combined-none h k w none none_there =
      nothing (number_at (combined form def v).entries w)
      (combined-number h k w ∙ ap₂ (less a b) none none_there ∙ (let x = *ℤ-zero a in let y = *ℤ-zero b in omega (arith, ints)))

  -- at the variable
  pub combined-removes : Ascends form.entries → Ascends def.entries → number_at (combined form def v).entries v ≡ pos 0
  combined-removes h k =
      nothing (number_at (combined form def v).entries v)
      (combined-number h k v ∙ cancels a b (common p q) p q (int_div-mul p (gcd_of (unsigned_abs p) (unsigned_abs q)) (gcd_of-dvd_left (unsigned_abs p) (unsigned_abs q))) (int_div-mul q (gcd_of (unsigned_abs p) (unsigned_abs q)) (gcd_of-dvd_right (unsigned_abs p) (unsigned_abs q))))
    where
      p : ℤ
      p = number_at def.entries v

      q : ℤ
      q = number_at form.entries v

      turned : (a b g : ℤ) → a *ℤ (b *ℤ g) ≡ b *ℤ (a *ℤ g)
      turned a b g = simp products

      cancels : (a b g p q : ℤ) → a *ℤ g ≡ p → b *ℤ g ≡ q → less a b q p ≡ pos 0
      cancels a b g p q e f =
          ap₂ (λ y z. less a b y z) (sym f) (sym e) ∙ (let t = turned a b g in omega (arith, ints))

-- ---- its variables are those of the two

-- each variable is of a kind
abbrev pub HaveOnly : (Var → Type 0) → List (Var × ℤ) → Type 0
HaveOnly P [] = ⊤
HaveOnly P (e ∷ es) = P e.0 × HaveOnly P es

module _ (P : Var → Type 0) where
  abbrev BesideOnly : List Beside → Type 0
  BesideOnly [] = ⊤
  BesideOnly (e ∷ es) = P e.variable × BesideOnly es

  only-right : (os : List (Var × ℤ)) → HaveOnly P os → BesideOnly (all_right_only os)
  only-right [] h = tt
  only-right (o ∷ os) h = (h.0, only-right os h.1)

  only-first : (e : Var × ℤ) (rest : List (Var × ℤ) → List Beside) → P e.0 → ((os : List (Var × ℤ)) → HaveOnly P os → BesideOnly (rest os)) → (os : List (Var × ℤ)) → HaveOnly P os → BesideOnly (first_beside e rest os)
  only-first e rest p h [] k = (p, h [] tt)
  only-first e rest p h (o ∷ os) k = cases (var_cmp e.0 o.0) (only-first e rest p h os k.1)
    where
      cases : (t : Ordering) → BesideOnly (first_beside e rest os)
          → BesideOnly (elim t [ Less ↦ left_only e ∷ rest (o ∷ os) | Equal ↦ record { variable = e.0; number = e.1; other = o.1 } ∷ rest os | Greater ↦ right_only o ∷ first_beside e rest os ])
      cases Less later = (p, h (o ∷ os) k)
      cases Equal later = (p, h os k.1)
      cases Greater later = (k.0, later)

  only-beside : (es os : List (Var × ℤ)) → HaveOnly P es → HaveOnly P os → BesideOnly (beside es os)
  only-beside [] os h k = only-right os k
  only-beside (e ∷ es) os h k = only-first e (beside es) h.0 (λ ps l. only-beside es ps h.1 l) os k

  only-lessened : (a b : ℤ) (bs : List Beside) → BesideOnly bs → HaveOnly P (lessened a b bs)
  only-lessened a b [] h = tt
  only-lessened a b (e ∷ es) h = cases (is_zero (less a b e.number e.other)) (only-lessened a b es h.1)
    where
      cases : (t : Bool) → HaveOnly P (lessened a b es) → HaveOnly P ((if t then [] else ((e.variable, less a b e.number e.other) ∷ [])) ++ lessened a b es)
      cases true later = later
      cases false later = (h.0, later)

  only-divided : (g : ℕ) (es : List (Var × ℤ)) → HaveOnly P es → HaveOnly P (entries_divided g es)
  only-divided g [] h = tt
  only-divided g (e ∷ es) h = (h.0, only-divided g es h.1)

  pub combined-only : (form def : Form) (v : Var) → HaveOnly P form.entries → HaveOnly P def.entries → HaveOnly P (combined form def v).entries
  combined-only form def v h k = only-divided (divisor_by (row_factor form def v) (def_factor form def v) form def) (undivided_entries (row_factor form def v) (def_factor form def v) form def) (only-lessened (row_factor form def v) (def_factor form def v) (beside form.entries def.entries) (only-beside form.entries def.entries h k))
