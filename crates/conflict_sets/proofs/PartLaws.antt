-- What plans and multipliers of some rows are to fewer of them.
use Rattle.row_problem.proofs.Common.{◌≡◌, ℕ, ℤ, pos, ◌+ℤ◌, ◌*ℤ◌, Bool, true, false, List, [], ◌∷◌, inl, inr, filter, refl, sym, ap, ◌∙◌, subst, arith, flat_map, ints, zero-*ℤ, Row, RowName, Var, kind_is_free, variables_of, number_at, Contains-from_Has, Has, Has-append_left, Has-append_right, Has-from_Contains, append_parts, AreSigned, AreWithin, IsWithin, Refutes, no_cost, AllStand, MeetsAll, HasVariablesOf, column_sum, weighted, is_unequal, by_test}
use Rattle.std.proofs.lemmas.List.Concat.{flat_map-cons}
use Rattle.conflict_sets.proofs.Common.{is_taken, rows_with, every}
use Rattle.conflict_sets.proofs.RowLists.{Takes, taken-too}

-- ---- plans

abbrev right_of : ℕ → Row → ℤ
right_of q row = row.rhs *ℤ pos q

-- what takes fewer rows of a list asks for less
fewer-stand : (p r : Row → Bool) (q : ℕ) (x : Var → ℤ) (rows : List Row) → ((row : Row) → Has rows row → p row ≡ true → r row ≡ true) → AllStand (right_of q) (filter r rows) x → AllStand (right_of q) (filter p rows) x
fewer-stand p r q x [] both h = tt
fewer-stand p r q x (row ∷ rows) both h =
    let rest = fewer-stand p r q x rows (λ t k. both t (inr k)) in
    by_test (p row) (λ is. let k = rw (both row (inl refl) is) at h in rw is (k.0, rest k.1)) (λ is. rw is (by_test (r row) (λ there. rest (rw there at h).1) (λ there. rest (rw there at h))))

pub fewer-met : (rows : List Row) (vars : List Var) (fewer more : RowName → Bool) (q : ℕ) (x : Var → ℤ) → Takes rows fewer more → MeetsAll (rows_with more rows) vars q x → MeetsAll (rows_with fewer rows) vars q x
fewer-met rows vars fewer more q x takes h = record {
  positive = h.positive;
  rows_hold = fewer-stand (is_taken fewer) (is_taken more) q x rows (λ row k t. taken-too rows fewer more row k takes t) h.rows_hold;
  signs = h.signs;
}

-- with every inequality, the rows of a trial are all rows
all-stand : (q : ℕ) (x : Var → ℤ) (rows : List Row) (p : Row → Bool) → ((row : Row) → p row ≡ true) → AllStand (right_of q) (filter p rows) x → AllStand (right_of q) rows x
all-stand q x [] p every h = tt
all-stand q x (row ∷ rows) p every h = let k = rw (every row) at h in (k.0, all-stand q x rows p every k.1)

-- the first trial has every row
pub every-taken : (row : Row) → is_taken every row ≡ true
every-taken row = by_test (is_unequal row.sense) (λ is. rw is refl) (λ is. rw is refl)

pub all-met : (rows : List Row) (vars : List Var) (listed : RowName → Bool) (q : ℕ) (x : Var → ℤ) → ((row : Row) → is_taken listed row ≡ true) → MeetsAll (rows_with listed rows) vars q x → MeetsAll rows vars q x
all-met rows vars listed q x every h = record { positive = h.positive; rows_hold = all-stand q x rows (is_taken listed) every h.rows_hold; signs = h.signs }

-- ---- multipliers

module _ (y : RowName → ℤ) (p : Row → Bool) where
  -- sums over those rows are sums over all, where all others have the multiplier 0
  part-sum : (f : Row → ℤ) (rows : List Row) → ((row : Row) → Has rows row → p row ≡ false → y row.name ≡ pos 0) → weighted y f (filter p rows) ≡ weighted y f rows
  part-sum f [] none = refl
  part-sum f (row ∷ rows) none =
      let rest = part-sum f rows (λ r k. none r (inr k)) in
      by_test (p row) (λ is. rw is (ap (λ z. (y row.name *ℤ f row) +ℤ z) rest)) (λ is. rw is (nothing (y row.name) (weighted y f (filter p rows)) (weighted y f rows) (none row (inl refl) is) rest))
    where
      nothing : (z a b : ℤ) → z ≡ pos 0 → a ≡ b → a ≡ (z *ℤ f row) +ℤ b
      nothing z a b e same = let no = zero-*ℤ (f row) in let product : z *ℤ f row ≡ pos 0 = ap (λ w. w *ℤ f row) e ∙ no in omega (arith, ints)

  part-signed : (rows : List Row) → AreSigned y rows → AreSigned y (filter p rows)
  part-signed [] h = tt
  part-signed (row ∷ rows) h = by_test (p row) (λ is. rw is (h.0, part-signed rows h.1)) (λ is. rw is (part-signed rows h.1))

within-same : (vars : List Var) (a b c : Var → ℤ) → ((v : Var) → a v ≡ b v) → AreWithin vars a c → AreWithin vars b c
within-same [] a b c e h = tt
within-same (v ∷ vars) a b c e h = (subst (λ z. IsWithin (kind_is_free v.kind) z (c v)) (e v) h.0, within-same vars a b c e h.1)

pub part-refuted : (rows : List Row) (vars : List Var) (p : Row → Bool) (s : ℕ) (y : RowName → ℤ) → ((row : Row) → Has rows row → p row ≡ false → y row.name ≡ pos 0) → Refutes rows vars s y → Refutes (filter p rows) vars s y
part-refuted rows vars p s y none h = record {
  proves = record {
    signs = part-signed y p rows h.proves.signs;
    columns = within-same vars (column_sum y rows) (column_sum y (filter p rows)) (λ v. no_cost v *ℤ pos s) (λ v. sym (part-sum y p (λ row. number_at row.entries.items v) rows none)) h.proves.columns;
  };
  positive = rw (part-sum y p (λ row. row.rhs) rows none) h.positive;
}

-- ---- variables

abbrev variables_in : List Row → List Var
variables_in rows = flat_map (λ (row : Row). variables_of row.entries.items) rows

fewer-variables : (p : Row → Bool) (rows : List Row) (v : Var) → Has (variables_in (filter p rows)) v → Has (variables_in rows) v
fewer-variables p [] v h = absurd h
fewer-variables p (row ∷ rows) v h = rw (flat_map-cons (λ (r : Row). variables_of r.entries.items) row rows)
    (by_test (p row)
    (λ is. elim (append_parts (variables_of row.entries.items) (variables_in (filter p rows)) v (subst (λ vs. Has vs v) (flat_map-cons (λ (r : Row). variables_of r.entries.items) row (filter p rows)) (rw is at h))) [
      | inl here ↦ Has-append_left (variables_of row.entries.items) (variables_in rows) v here
      | inr there ↦ Has-append_right (variables_of row.entries.items) (variables_in rows) v (fewer-variables p rows v there)
    ])
    (λ is. Has-append_right (variables_of row.entries.items) (variables_in rows) v (fewer-variables p rows v (rw is at h))))

pub part-variables : (p : Row → Bool) (rows : List Row) (vars : List Var) → HasVariablesOf rows vars → HasVariablesOf (filter p rows) vars
part-variables p rows vars h v k = h v (Contains-from_Has (variables_in rows) v (fewer-variables p rows v (Has-from_Contains (variables_in (filter p rows)) v k)))
