-- Multipliers of named rows that give each defined variable's column its coefficient: the other columns and the bound are those of the reduced rows and of the row of the cost. What differs would be linear in the numbers of a plan, and is 0 of each that meets the definitions.
use Rattle.variable_elimination.proofs.Common.{◌≡◌, ℕ, suc, ℤ, pos, neg_ℤ, ◌+ℤ◌, ◌-ℤ◌, ◌*ℤ◌, true, List, [], ◌∷◌, length, refl, sym, ap, ap₂, ◌∙◌, subst, arith, Option, Some, None, ◌<ℤ◌, ints, *ℤ_cancel, nonzero_of_pos, ring, products, zero-*ℤ, *ℤ-zero, *ℤ_comm, neg_ℤ-*ℤ, Row, RowName, Var, number_at, row_sum, alone, row_sum-alone, Definition, definitions_of, others_of, rows_of, defined, is_among, AreTriangular, weighted, column_sum, bound_of, excess, AreMet, multiples_of}
use Rattle.variable_elimination.proofs.LiftLaws.{minus-is, met_by_some}
use Rattle.variable_elimination.proofs.LinearLaws.{IsLinear, linear-row, linear-zero, linear-plus, linear-times, linear-homogeneous, linear-nothing, linear-depends}

-- ---- sums over rows

-- the sum of a row
abbrev pub total : (Var → ℤ) → Row → ℤ
total x row = row_sum x row.entries.items

pub weighted-linear : (y : RowName → ℤ) (rows : List Row) → IsLinear (λ x. weighted y (total x) rows)
weighted-linear y [] = linear-zero
weighted-linear y (row ∷ rows) =
    linear-plus (λ x. y row.name *ℤ total x row) (λ x. weighted y (total x) rows) (linear-times (y row.name) (λ x. total x row) (linear-row row.entries.items)) (weighted-linear y rows)

pub multiples-linear : (i : ℕ) (l : ℕ → ℤ) (rows : List Row) → IsLinear (λ x. multiples_of i l (total x) rows)
multiples-linear i l [] = linear-zero
multiples-linear i l (row ∷ rows) =
    linear-plus (λ x. l i *ℤ total x row) (λ x. multiples_of (suc i) l (total x) rows) (linear-times (l i) (λ x. total x row) (linear-row row.entries.items)) (multiples-linear (suc i) l rows)

-- of 1 at a variable and 0 elsewhere, it is the column's
pub weighted-alone : (y : RowName → ℤ) (v : Var) (rows : List Row) → weighted y (total (alone v)) rows ≡ column_sum y rows v
weighted-alone y v [] = refl
weighted-alone y v (row ∷ rows) = ap₂ (λ a b. (y row.name *ℤ a) +ℤ b) (row_sum-alone v row.entries.items row.ascending) (weighted-alone y v rows)

pub multiples-alone : (i : ℕ) (l : ℕ → ℤ) (v : Var) (rows : List Row) → multiples_of i l (total (alone v)) rows ≡ multiples_of i l (λ row. number_at row.entries.items v) rows
multiples-alone i l v [] = refl
multiples-alone i l v (row ∷ rows) = ap₂ (λ a b. (l i *ℤ a) +ℤ b) (row_sum-alone v row.entries.items row.ascending) (multiples-alone (suc i) l v rows)

less_step : (y n r q s t : ℤ) → (y *ℤ (n -ℤ (r *ℤ q))) +ℤ (s -ℤ (t *ℤ q)) ≡ ((y *ℤ n) +ℤ s) -ℤ (((y *ℤ r) +ℤ t) *ℤ q)
less_step y n r q s t =
    let e : ((y *ℤ r) +ℤ t) *ℤ q ≡ (y *ℤ (r *ℤ q)) +ℤ (t *ℤ q) = simp ring in
    let f : y *ℤ (n -ℤ (r *ℤ q)) ≡ (y *ℤ n) +ℤ neg_ℤ (y *ℤ (r *ℤ q)) = simp (minus-is, ring) in
    omega (arith, ints)

nothing_less : (q : ℤ) → pos 0 ≡ pos 0 -ℤ (pos 0 *ℤ q)
nothing_less q = omega (arith, ints, zero-*ℤ q)

weighted-excess : (y : RowName → ℤ) (q : ℤ) (x : Var → ℤ) (rows : List Row) → weighted y (λ row. excess row q x) rows ≡ weighted y (total x) rows -ℤ (bound_of y rows *ℤ q)
weighted-excess y q x [] = nothing_less q
weighted-excess y q x (row ∷ rows) =
    ap (λ z. (y row.name *ℤ excess row q x) +ℤ z) (weighted-excess y q x rows)
    ∙ less_step (y row.name) (total x row) row.rhs q (weighted y (total x) rows) (bound_of y rows)

multiples-excess : (i : ℕ) (l : ℕ → ℤ) (q : ℤ) (x : Var → ℤ) (rows : List Row) → multiples_of i l (λ row. excess row q x) rows ≡ multiples_of i l (total x) rows -ℤ (multiples_of i l (λ row. row.rhs) rows *ℤ q)
multiples-excess i l q x [] = nothing_less q
multiples-excess i l q x (row ∷ rows) =
    ap (λ z. (l i *ℤ excess row q x) +ℤ z) (multiples-excess (suc i) l q x rows)
    ∙ less_step (l i) (total x row) row.rhs q (multiples_of (suc i) l (total x) rows) (multiples_of (suc i) l (λ r. r.rhs) rows)

-- the definitions and the others are all rows
pub weighted-parts : (y : RowName → ℤ) (f : Row → ℤ) (rows : List Row) (defs : List (Option Var)) → length defs ≡ length rows
    → weighted y f rows ≡ weighted y f (others_of rows defs) +ℤ weighted y f (rows_of (definitions_of rows defs))
weighted-parts y f [] defs same = refl
weighted-parts y f (row ∷ rows) [] same = absurd (omega arith)
weighted-parts y f (row ∷ rows) (None ∷ defs) same =
    ap (λ z. (y row.name *ℤ f row) +ℤ z) (weighted-parts y f rows defs (omega arith)) ∙ here (y row.name *ℤ f row) (weighted y f (others_of rows defs)) (weighted y f (rows_of (definitions_of rows defs)))
  where
    here : (a b c : ℤ) → a +ℤ (b +ℤ c) ≡ (a +ℤ b) +ℤ c
    here a b c = omega (arith, ints)
weighted-parts y f (row ∷ rows) (Some v ∷ defs) same =
    ap (λ z. (y row.name *ℤ f row) +ℤ z) (weighted-parts y f rows defs (omega arith)) ∙ there (y row.name *ℤ f row) (weighted y f (others_of rows defs)) (weighted y f (rows_of (definitions_of rows defs)))
  where
    there : (a b c : ℤ) → a +ℤ (b +ℤ c) ≡ b +ℤ (a +ℤ c)
    there a b c = omega (arith, ints)

defined-excess : (y : RowName → ℤ) (ds : List Definition) (q : ℤ) (x : Var → ℤ) → AreMet ds q x → weighted y (λ row. excess row q x) (rows_of ds) ≡ pos 0
defined-excess y [] q x h = refl
defined-excess y (d ∷ ds) q x h = ap₂ (λ a b. (y d.row.name *ℤ a) +ℤ b) h.0 (defined-excess y ds q x h.1) ∙ ap (λ z. z +ℤ pos 0) (*ℤ-zero (y d.row.name))

-- ---- what differs

-- own times the named rows' sum, less s times the cost's with its row, less own times the reduced rows'
abbrev rest_of : ℤ → ℤ → ℤ → ℤ → ℤ → ℤ → ℤ
rest_of own s w c l p = (own *ℤ w) +ℤ ((neg_ℤ (own *ℤ s) *ℤ c) +ℤ ((neg_ℤ own *ℤ l) +ℤ (neg_ℤ s *ℤ p)))

collected : (own s w c l p b r rhs q : ℤ) → w -ℤ (b *ℤ q) ≡ l -ℤ (r *ℤ q) → (own *ℤ c) +ℤ p ≡ rhs *ℤ q → rest_of own s w c l p ≡ ((own *ℤ (b -ℤ r)) -ℤ (s *ℤ rhs)) *ℤ q
collected own s w c l p b r rhs q h k =
    let w_is : w ≡ (b *ℤ q) +ℤ (l +ℤ neg_ℤ (r *ℤ q)) = omega (arith, ints) in
    let p_is : p ≡ (rhs *ℤ q) +ℤ neg_ℤ (own *ℤ c) = omega (arith, ints) in
    ap₂ (λ a e. rest_of own s a c l e) w_is p_is
    ∙ (let f : own *ℤ ((b *ℤ q) +ℤ (l +ℤ neg_ℤ (r *ℤ q))) ≡ (own *ℤ (b *ℤ q)) +ℤ ((own *ℤ l) +ℤ neg_ℤ (own *ℤ (r *ℤ q))) = simp ring in
    let m : neg_ℤ (own *ℤ s) *ℤ c ≡ neg_ℤ (s *ℤ (own *ℤ c)) = simp ring in
    let o : neg_ℤ own *ℤ l ≡ neg_ℤ (own *ℤ l) = simp ring in
    let t : neg_ℤ s *ℤ ((rhs *ℤ q) +ℤ neg_ℤ (own *ℤ c)) ≡ neg_ℤ (s *ℤ (rhs *ℤ q)) +ℤ (s *ℤ (own *ℤ c)) = simp ring in
    let u : ((own *ℤ (b -ℤ r)) -ℤ (s *ℤ rhs)) *ℤ q ≡ (own *ℤ (b *ℤ q)) +ℤ (neg_ℤ (own *ℤ (r *ℤ q)) +ℤ neg_ℤ (s *ℤ (rhs *ℤ q))) = simp (minus-is, ring) in
    omega (arith, ints))

nothing_rests : (own s w c l p : ℤ) → w ≡ s *ℤ c → l ≡ pos 0 → p ≡ pos 0 → rest_of own s w c l p ≡ pos 0
nothing_rests own s w c l p h k m =
    let a : own *ℤ w ≡ (own *ℤ s) *ℤ c = ap (λ z. own *ℤ z) h ∙ grouped own s c in
    let b : neg_ℤ (own *ℤ s) *ℤ c ≡ neg_ℤ ((own *ℤ s) *ℤ c) = neg_ℤ-*ℤ (own *ℤ s) c in
    let d : neg_ℤ own *ℤ l ≡ pos 0 = ap (λ z. neg_ℤ own *ℤ z) k ∙ *ℤ-zero (neg_ℤ own) in
    let e : neg_ℤ s *ℤ p ≡ pos 0 = ap (λ z. neg_ℤ s *ℤ z) m ∙ *ℤ-zero (neg_ℤ s) in
    omega (arith, ints)
  where
    grouped : (own s c : ℤ) → own *ℤ (s *ℤ c) ≡ (own *ℤ s) *ℤ c
    grouped own s c = simp products

module _ (rows : List Row) (defs : List (Option Var)) (same : length defs ≡ length rows) (triangular : AreTriangular (definitions_of rows defs)) (y : RowName → ℤ) (l : ℕ → ℤ) (reduced : List Row)
    (others_match : (q : ℤ) (x : Var → ℤ) → AreMet (definitions_of rows defs) q x → weighted y (λ row. excess row q x) (others_of rows defs) ≡ multiples_of 0 l (λ row. excess row q x) reduced)
    (own s rhs : ℤ) (cost price : (Var → ℤ) → ℤ) (cost_linear : IsLinear cost) (price_linear : IsLinear price)
    (cost_met : (q : ℤ) (x : Var → ℤ) → AreMet (definitions_of rows defs) q x → (own *ℤ cost x) +ℤ price x ≡ rhs *ℤ q)
    (columns_defined : (w : Var) → is_among (defined (definitions_of rows defs)) w ≡ true → column_sum y rows w ≡ s *ℤ cost (alone w))
    (reduced_none : (w : Var) → is_among (defined (definitions_of rows defs)) w ≡ true → multiples_of 0 l (total (alone w)) reduced ≡ pos 0)
    (price_none : (w : Var) → is_among (defined (definitions_of rows defs)) w ≡ true → price (alone w) ≡ pos 0) where
  abbrev ds : List Definition
  ds = definitions_of rows defs

  abbrev rest : (Var → ℤ) → ℤ
  rest x = rest_of own s (weighted y (total x) rows) (cost x) (multiples_of 0 l (total x) reduced) (price x)

  abbrev bound_rest : ℤ
  bound_rest = (own *ℤ (bound_of y rows -ℤ multiples_of 0 l (λ row. row.rhs) reduced)) -ℤ (s *ℤ rhs)

  rest-linear : IsLinear rest
  rest-linear =
      linear-plus (λ x. own *ℤ weighted y (total x) rows) (λ x. (neg_ℤ (own *ℤ s) *ℤ cost x) +ℤ ((neg_ℤ own *ℤ multiples_of 0 l (total x) reduced) +ℤ (neg_ℤ s *ℤ price x)))
      (linear-times own (λ x. weighted y (total x) rows) (weighted-linear y rows))
      (linear-plus (λ x. neg_ℤ (own *ℤ s) *ℤ cost x) (λ x. (neg_ℤ own *ℤ multiples_of 0 l (total x) reduced) +ℤ (neg_ℤ s *ℤ price x))
      (linear-times (neg_ℤ (own *ℤ s)) cost cost_linear)
      (linear-plus (λ x. neg_ℤ own *ℤ multiples_of 0 l (total x) reduced) (λ x. neg_ℤ s *ℤ price x)
      (linear-times (neg_ℤ own) (λ x. multiples_of 0 l (total x) reduced) (multiples-linear 0 l reduced))
      (linear-times (neg_ℤ s) price price_linear)))

  -- nothing at a defined variable
  rest-none : (w : Var) → is_among (defined ds) w ≡ true → rest (alone w) ≡ pos 0
  rest-none w h =
      nothing_rests own s (weighted y (total (alone w)) rows) (cost (alone w)) (multiples_of 0 l (total (alone w)) reduced) (price (alone w))
      (weighted-alone y w rows ∙ columns_defined w h) (reduced_none w h) (price_none w h)

  -- of numbers that meet the definitions it is what is left of the bound
  rest-met : (q : ℤ) (x : Var → ℤ) → AreMet ds q x → rest x ≡ bound_rest *ℤ q
  rest-met q x met =
      collected own s (weighted y (total x) rows) (cost x) (multiples_of 0 l (total x) reduced) (price x) (bound_of y rows) (multiples_of 0 l (λ row. row.rhs) reduced) rhs q
      (sym (weighted-excess y q x rows) ∙ weighted-parts y (λ row. excess row q x) rows defs same
      ∙ ap₂ (λ a b. a +ℤ b) (others_match q x met ∙ multiples-excess 0 l q x reduced) (defined-excess y ds q x met) ∙ plus_zero (multiples_of 0 l (total x) reduced -ℤ (multiples_of 0 l (λ row. row.rhs) reduced *ℤ q)))
      (cost_met q x met)
    where
      plus_zero : (z : ℤ) → z +ℤ pos 0 ≡ z
      plus_zero z = omega (arith, ints)

  cancelled : (z t : ℤ) → pos 0 <ℤ t → t *ℤ z ≡ pos 0 → z ≡ pos 0
  cancelled z t h e = *ℤ_cancel z (pos 0) t (nonzero_of_pos t h) (*ℤ_comm z t ∙ e ∙ sym (zero-*ℤ t))

  -- nor at any other
  rest-everywhere : (v : Var) → rest (alone v) ≡ pos 0
  rest-everywhere v =
      let m = met_by_some ds (pos 0) (alone v) triangular in
      let met : AreMet ds (pos 0) m.plan = subst (λ z. AreMet ds z m.plan) (*ℤ-zero m.times) m.met in
      cancelled (rest (alone v)) m.times m.positive
      (sym (linear-homogeneous rest rest-linear m.times (alone v))
      ∙ sym (linear-depends (defined ds) rest rest-linear rest-none m.plan (λ w. m.times *ℤ alone v w) (λ w k. m.agrees w k))
      ∙ rest-met (pos 0) m.plan met ∙ *ℤ-zero bound_rest)

  -- so nothing is left of the bound
  bound-nothing : bound_rest ≡ pos 0
  bound-nothing =
      let m = met_by_some ds (pos 1) (λ v. pos 0) triangular in
      cancelled bound_rest (m.times *ℤ pos 1) (over_one m.times m.positive)
      (*ℤ_comm (m.times *ℤ pos 1) bound_rest ∙ sym (rest-met (m.times *ℤ pos 1) m.plan m.met)
      ∙ linear-depends (defined ds) rest rest-linear rest-none m.plan (λ w. m.times *ℤ pos 0) (λ w k. m.agrees w k)
      ∙ linear-homogeneous rest rest-linear m.times (λ w. pos 0) ∙ ap (λ z. m.times *ℤ z) (linear-nothing rest rest-linear) ∙ *ℤ-zero m.times)
    where
      over_one : (t : ℤ) → pos 0 <ℤ t → pos 0 <ℤ (t *ℤ pos 1)
      over_one t h = omega (arith, ints)

  -- a column that isn't of the cost
  pub column_kept : (v : Var) → cost (alone v) ≡ pos 0 → own *ℤ column_sum y rows v ≡ (own *ℤ multiples_of 0 l (λ row. number_at row.entries.items v) reduced) +ℤ (s *ℤ price (alone v))
  column_kept v none =
      solved own s (column_sum y rows v) (cost (alone v)) (multiples_of 0 l (λ row. number_at row.entries.items v) reduced) (price (alone v)) none
      (ap₂ (λ w m. rest_of own s w (cost (alone v)) m (price (alone v))) (sym (weighted-alone y v rows)) (sym (multiples-alone 0 l v reduced)) ∙ rest-everywhere v)
    where
      solved : (own s w c m p : ℤ) → c ≡ pos 0 → rest_of own s w c m p ≡ pos 0 → own *ℤ w ≡ (own *ℤ m) +ℤ (s *ℤ p)
      solved own s w c m p h k =
          let a : neg_ℤ (own *ℤ s) *ℤ c ≡ pos 0 = ap (λ z. neg_ℤ (own *ℤ s) *ℤ z) h ∙ *ℤ-zero (neg_ℤ (own *ℤ s)) in
          let b : neg_ℤ own *ℤ m ≡ neg_ℤ (own *ℤ m) = neg_ℤ-*ℤ own m in
          let d : neg_ℤ s *ℤ p ≡ neg_ℤ (s *ℤ p) = neg_ℤ-*ℤ s p in
          omega (arith, ints)

  pub bound_kept : own *ℤ bound_of y rows ≡ (own *ℤ multiples_of 0 l (λ row. row.rhs) reduced) +ℤ (s *ℤ rhs)
  bound_kept = solved own (bound_of y rows) (multiples_of 0 l (λ row. row.rhs) reduced) (s *ℤ rhs) bound-nothing
    where
      solved : (own b r z : ℤ) → (own *ℤ (b -ℤ r)) -ℤ z ≡ pos 0 → own *ℤ b ≡ (own *ℤ r) +ℤ z
      solved own b r z h =
          let a : own *ℤ (b -ℤ r) ≡ (own *ℤ b) +ℤ neg_ℤ (own *ℤ r) = simp (minus-is, ring) in
          omega (arith, ints)
