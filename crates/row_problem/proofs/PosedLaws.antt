-- No equation is left of a problem: one that defines nothing says what a definition says, so that it is reduced to 0 = 0, which isn't kept. So what is left is a linear program of inequalities.
use Rattle.row_problem.proofs.Common.{◌≡◌, ◌≢◌, ℤ, pos, ◌-ℤ◌, ◌*ℤ◌, Bool, true, false, not, ◌||◌, List, [], ◌∷◌, inl, inr, map, filter, refl, sym, ap, ap₂, ◌∙◌, subst, arith, if◌then◌else◌, Option, ◌<ℤ◌, is_eq, ints, Rational, value_of, Frac, *ℤ_cancel, *ℤ_pos, nonzero_of_pos, *ℤ-zero, zero-*ℤ, *ℤ_comm, Row, Sense, Equal, Var, none_zero, numbers_of, var_cmp, number_at, row_sum, stands, alone, both_passed, Contains-from_Has, Has, Has-from_Contains, Reduced, Definition, definitions_of, others_of, rows_of, defined, avoids, AreTriangular, ReducedRow, has_entries, is_kept, inequality_of, program_of, ArePosed, IsPosed, IsReady, RowsAreAmong, AvoidAll, excess, AreMet, AreReductions, shape, shape_of, stays, met_by_some, row_sum-avoids, row_sum-times, IsReduced-met, itself, IsProblem, IsRepeatedBy, by_test}
use Rattle.std.specs.Prelude.{⊤}
use Rattle.row_core.proofs.MeaningLaws.{row_sum-alone}
use Rattle.variable_elimination.specs.Reductions.{IsReduced}
use Rattle.variable_elimination.proofs.LeftLaws.{avoids-from_none}

-- ---- rows that say what a definition says

met_among : (ds : List Definition) (d : Definition) (q : ℤ) (x : Var → ℤ) → Has ds d → AreMet ds q x → excess d.row q x ≡ pos 0
met_among [] d q x h met = absurd h
met_among (first ∷ ds) d q x (inl e) met = subst (λ (k : Definition). excess k.row q x ≡ pos 0) e met.0
met_among (first ∷ ds) d q x (inr h) met = met_among ds d q x h met.1

repeated_met : (ds : List Definition) (row : Row) (q : ℤ) (x : Var → ℤ) → IsRepeatedBy ds row → AreMet ds q x → excess row q x ≡ pos 0
repeated_met ds row q x r met =
    ap₂ (λ (es : List (Var × ℤ)) z. row_sum x es -ℤ (z *ℤ q)) (sym r.entries) (sym r.right_side) ∙ met_among ds r.definition q x (Has-from_Contains ds r.definition r.among) met

-- ---- what they are reduced to

is_empty : (es : List (Var × ℤ)) → none_zero (numbers_of es) ≡ true → ((w : Var) → number_at es w ≡ pos 0) → es ≡ []
is_empty [] some none = refl
is_empty (e ∷ es) some none =
    let parts = both_passed (not (is_eq (var_cmp e.0 e.0) || false)) (avoids (e.0 ∷ []) es) (avoids-from_none (e.0 ∷ []) (e ∷ es) some (λ w k. none w)) in
    let there : not (is_eq (var_cmp e.0 e.0) || false) ≡ false = ap (λ o. not (is_eq o || false)) (itself e.0) in
    absurd (cc (parts.0, there))

cancelled : (z t : ℤ) → pos 0 <ℤ t → z *ℤ t ≡ pos 0 → z ≡ pos 0
cancelled z t h e = *ℤ_cancel z (pos 0) t (nonzero_of_pos t h) (e ∙ sym (zero-*ℤ t))

-- a row that holds wherever the definitions do, without defined variables, has no entries and the right side 0
module _ (ds : List Definition) (triangular : AreTriangular ds) (row : Row) (apart : avoids (defined ds) row.entries.items ≡ true) (holds : (q : ℤ) (x : Var → ℤ) → AreMet ds q x → excess row q x ≡ pos 0) where
  abbrev es : List (Var × ℤ)
  es = row.entries.items

  sum_of : (q : ℤ) (x : Var → ℤ) → AreMet ds q x → row_sum x es ≡ row.rhs *ℤ q
  sum_of q x met = difference (row_sum x es) (row.rhs *ℤ q) (holds q x met)
    where
      difference : (a b : ℤ) → a -ℤ b ≡ pos 0 → a ≡ b
      difference a b h = omega (arith, ints)

  no_sum : (x : Var → ℤ) → row_sum x es ≡ pos 0
  no_sum x =
      let m = met_by_some ds (pos 0) x triangular in
      let met : AreMet ds (pos 0) m.plan = subst (λ z. AreMet ds z m.plan) (*ℤ-zero m.times) m.met in
      cancelled (row_sum x es) m.times m.positive
      (*ℤ_comm (row_sum x es) m.times ∙ sym (row_sum-times m.times x es) ∙ sym (row_sum-avoids m.plan (λ w. m.times *ℤ x w) (defined ds) es apart (λ w k. m.agrees w k))
      ∙ sum_of (pos 0) m.plan met ∙ *ℤ-zero row.rhs)

  pub no_entries : es ≡ []
  no_entries = is_empty es row.nonzero (λ w. sym (row_sum-alone w es row.ascending) ∙ no_sum (alone w))

  pub no_right_side : row.rhs ≡ pos 0
  no_right_side =
      let m = met_by_some ds (pos 1) (λ v. pos 0) triangular in
      cancelled row.rhs (m.times *ℤ pos 1) (over_one m.times m.positive) (sym (sum_of (m.times *ℤ pos 1) m.plan m.met) ∙ no_sum m.plan)
    where
      over_one : (t : ℤ) → pos 0 <ℤ t → pos 0 <ℤ (t *ℤ pos 1)
      over_one t h = omega (arith, ints)

-- so does what a row is reduced to, where the row holds wherever the definitions do
reduced_holds : (ds : List Definition) (named new : Row) (scale : Rational) → IsReduced (rows_of ds) named scale new → ((q : ℤ) (x : Var → ℤ) → AreMet ds q x → excess named q x ≡ pos 0) → (q : ℤ) (x : Var → ℤ) → AreMet ds q x → excess new q x ≡ pos 0
reduced_holds ds named new scale r zero q x met =
    let down : ℤ = scale.bottom *ℤ r.over in
    cancelled (excess new q x) down (*ℤ_pos scale.bottom r.over r.bottom_positive r.over_positive)
    (IsReduced-met ds named scale new q x met r ∙ ap (λ z. (scale.top *ℤ r.over) *ℤ z) (zero q x met) ∙ *ℤ-zero (scale.top *ℤ r.over))

-- ---- rows that are kept

abbrev AllStay : List Row → Type 0
AllStay [] = ⊤
AllStay (row ∷ rows) = (stays row ≡ true) × AllStay rows

abbrev kept_by : List (Var × ℤ) → Sense → ℤ → Bool
kept_by es sense right = has_entries es || not (stands sense (pos 0) right)

all_stay : (rs : List ReducedRow) (rows : List Row) → map shape_of rows ≡ map shape (filter is_kept rs) → AllStay rows
all_stay rs [] h = tt
all_stay [] (row ∷ rows) h = absurd (cc h)
all_stay (r ∷ rs) (row ∷ rows) h = by_test (is_kept r)
    (λ is.
    let k = rw is at h in
    let first : shape_of row ≡ shape r = cc k in
    let rest : map shape_of rows ≡ map shape (filter is_kept rs) = cc k in
    (ap (λ s. kept_by s.form.entries s.sense s.form.right) first ∙ is, all_stay rs rows rest))
    (λ is. all_stay rs (row ∷ rows) (rw is at h))

-- ---- the linear program

module _ (rows : List Row) (defs : List (Option Var)) (vars : List Var) (problem : IsProblem rows defs vars) (columns : List Var) where
  abbrev ds : List Definition
  ds = definitions_of rows defs

  -- an equation that defines nothing holds wherever the definitions do
  equation_met : (row : Row) → Has (others_of rows defs) row → row.sense ≡ Equal → (q : ℤ) (x : Var → ℤ) → AreMet ds q x → excess row q x ≡ pos 0
  equation_met row h equal q x met = repeated_met ds row q x (problem.repeated row (Contains-from_Has (others_of rows defs) row h) equal) met

  no_equation : (named new : Row) (scale : Rational) → Has (others_of rows defs) named → new.sense ≡ named.sense → IsReduced (rows_of ds) named scale new → avoids (defined ds) new.entries.items ≡ true → stays new ≡ true → new.sense ≢ Equal
  no_equation named new scale h sense r apart stay equal =
      let holds = reduced_holds ds named new scale r (equation_met named h (sym sense ∙ equal)) in
      let triangular = problem.triangular in
      let gone : stays new ≡ false =
      ap₂ (λ es z. kept_by es new.sense z) (no_entries ds triangular new apart holds) (no_right_side ds triangular new apart holds) ∙ ap (λ s. kept_by [] s (pos 0)) equal in
      absurd (cc (stay, gone))

  posed_rows : (others left : List Row) (scales : List Frac) → ((r : Row) → Has others r → Has (others_of rows defs) r) → AreReductions (rows_of ds) others left scales → AvoidAll (defined ds) left → AllStay left → RowsAreAmong columns left
      → ArePosed columns (map inequality_of left)
  posed_rows [] left scales into h apart stay among = rw h.0 tt
  posed_rows (named ∷ others) left scales into (inl h) apart stay among = posed_rows others left scales (λ r k. into r (inr k)) h.1 apart stay among
  posed_rows (named ∷ others) left scales into (inr (new, scale, more, more_scales, e, f, r, h)) apart stay among =
      let apart_new = rw e at apart in
      let stay_new = rw e at stay in
      let among_new = rw e at among in
      let later = posed_rows others more more_scales (λ t k. into t (inr k)) h apart_new.1 stay_new.1 among_new.1 in
      rw e
      (no_equation named new (value_of scale) (into named (inl refl)) r.sense r.reduced apart_new.0 stay_new.0, new.ascending, among_new.0, later)

-- what is left of a problem, where the rows are those of the written method
pub posed : (rows : List Row) (defs : List (Option Var)) (vars : List Var) (made : Reduced) (kept : List ReducedRow) → IsProblem rows defs vars
    → AreReductions (rows_of (definitions_of rows defs)) (others_of rows defs) made.rows.items made.scales.items → AvoidAll (defined (definitions_of rows defs)) made.rows.items
    → map shape_of made.rows.items ≡ map shape (filter is_kept kept) → IsReady made → IsPosed (program_of made)
posed rows defs vars made kept problem reductions apart same ready = record {
  columns = ready.columns;
  rows = posed_rows rows defs vars problem made.columns.items (others_of rows defs) made.rows.items made.scales.items (λ r k. k) reductions apart (all_stay kept made.rows.items same) ready.rows_among;
  cost_ascends = ready.cost_ascends;
  cost_among = ready.cost_among;
  cost_positive = ready.own_positive;
}
