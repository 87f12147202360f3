-- Entries that are rearranged, and equations that have right sides: examples, and near misses.
use Rattle.std.proofs.Common.{◌≡◌, ℕ, Bool, true, false, pos, List, [], ◌∷◌, cond, filter, length, nat_eq, eqb-true, refl, ap, sym, ◌∙◌, subst, arith, true≢false}
use Rattle.mps_writer.proofs.Common.{slice_index_or, IsPermutation-swap, length_permutation, replicate, Var, new_capacity, RowContents, rows_of_equation, Entry, IsRearranged, entry_of, is_of, AreSidesOf, HasNoSides}
use Rattle.mps_writer.proofs.MpsTextExamples.{caa1_2020, caa2_2020}
use Rattle.mps_writer.proofs.SameVariables.{same-is}

-- ---- the entries of one variable stay in their order

-- an entry at the second year, one at the first, and one at the second again
abbrev first : Entry
first = entry_of 1 (new_capacity 0 0 1, pos 1)

abbrev second : Entry
second = entry_of 2 (new_capacity 0 0 0, pos 1)

abbrev again : Entry
again = entry_of 3 (new_capacity 0 0 1, pos 1)

-- no variable is that of both years
not_both : (v : Var) → is_of v first ≡ true → is_of v second ≡ true → ⊥
not_both v a b =
    let same : new_capacity 0 0 1 ≡ new_capacity 0 0 0 = same-is (new_capacity 0 0 1) v a ∙ sym (same-is (new_capacity 0 0 0) v b) in
    let years : 1 ≡ 0 = ap (λ (u : Var). u.index.year) same in
    cc years

in_turn : (v : Var) (rest : List Entry) (a b : Bool) → is_of v first ≡ a → is_of v second ≡ b
    → cond b (second ∷ cond a (first ∷ rest) rest) (cond a (first ∷ rest) rest) ≡ cond a (first ∷ cond b (second ∷ rest) rest) (cond b (second ∷ rest) rest)
in_turn v rest true true at also = absurd (not_both v at also)
in_turn v rest true false at also = refl
in_turn v rest false true at also = refl
in_turn v rest false false at also = refl

rearranged : IsRearranged (first ∷ second ∷ again ∷ []) (second ∷ first ∷ again ∷ [])
rearranged = record {
  same = IsPermutation-swap _ _ 0 1 (omega arith) (omega arith) refl;
  stable = λ v. in_turn v (filter (is_of v) (again ∷ [])) (is_of v first) (is_of v second) refl refl;
}

-- the row of the first entry
abbrev first_row : List Entry → ℕ
first_row [] = 0
first_row (e ∷ es) = e.row

-- not those of one variable in another order, nor with one left out
turned : IsRearranged (first ∷ again ∷ []) (again ∷ first ∷ []) → ⊥
turned is =
    let same : again ∷ first ∷ [] ≡ first ∷ again ∷ [] = is.stable (new_capacity 0 0 1) in
    let row : 3 ≡ 1 = ap first_row same in
    omega (arith, row)

left_out : IsRearranged (first ∷ second ∷ []) (first ∷ []) → ⊥
left_out is =
    let same : 1 ≡ 2 = length_permutation (first ∷ second ∷ []) (first ∷ []) is.same in
    omega (arith, same)

-- nor with one exchanged for another
exchanged : IsRearranged (first ∷ second ∷ []) (first ∷ again ∷ []) → ⊥
exchanged is =
    let same : [] ≡ second ∷ [] = is.stable (new_capacity 0 0 0) in
    let long : 0 ≡ 1 = ap length same in
    omega (arith, long)

-- ---- equations that have right sides

-- of a row of CAa1 and one of CAa2 the second has a right side, and its number is marked
abbrev two_rows : List RowContents
two_rows = caa1_2020 ∷ caa2_2020 ∷ []

abbrev marks : List Bool
marks = false ∷ false ∷ false ∷ true ∷ replicate 61 false

no_sides : (eq : ℕ) → slice_index_or marks eq false ≡ false → HasNoSides (rows_of_equation eq two_rows)
no_sides eq unmarked = by_test (nat_eq 2 eq) (nat_eq 3 eq) refl
  where
    by_test : (first second : Bool) → nat_eq 3 eq ≡ second → HasNoSides (cond first ((1, caa1_2020) ∷ cond second ((2, caa2_2020) ∷ []) []) (cond second ((2, caa2_2020) ∷ []) []))
    by_test first true same = absurd (true≢false (subst (λ (n : ℕ). slice_index_or marks n false ≡ false) (sym (eqb-true 3 eq same)) unmarked))
    by_test true false other = (refl, tt)
    by_test false false other = tt

marked : AreSidesOf two_rows marks
marked = record { long = refl; each = λ eq inside unmarked. no_sides eq unmarked }

-- not where none is marked, nor where the marks have no place for the last equation
none_marked : AreSidesOf two_rows (replicate 65 false) → ⊥
none_marked is = true≢false (sym ((is.each 3 (omega arith) refl).0))

short : AreSidesOf [] (replicate 64 false) → ⊥
short is =
    let long : 64 ≡ 65 = is.long in
    omega (arith, long)
