-- What the calls that carry back say, in the words of those who solve the linear program and of those who check the rows.
use Rattle.row_problem.proofs.Common.{◌≡◌, ℕ, suc, ◌<◌, ℤ, pos, neg_ℤ, ◌+ℤ◌, ◌*ℤ◌, Bool, true, false, List, [], ◌∷◌, inl, inr, length, map, filter, refl, sym, ap, ◌∙◌, subst, arith, ◌<ℤ◌, ◌≤ℤ◌, Option, Result, Ok, Err, IfOk, Some, if◌then◌else◌, is_eq, eqb-true, ints, Rational, whole, value_of, Frac, *ℤ_cancel, *ℤ_nonnegative, nonzero_of_pos, ≤ℤ_cancel, *ℤ-one, *ℤ-zero, *ℤ_comm, ring, zero-*ℤ, Row, RowName, Sense, Equal, Most, Var, Stopped, kind_is_free, TRADE, value_at, keys_of, row_name_cmp, var_cmp, or_zero, value_in, number_at, row_sum, Stands, IsOver, IsOver-agree, Has, Has-from_Contains, Reduced, defined, definitions_of, is_among, is_column, inequality_of, is_split, program_of, IsAmong, no_cost, AreChosen, IsPartOf, IsWhole, AreReductions, neither, turned, is_model, weight_of, Cost, Model, One, BecomesPlan, BecomesDirection, BecomesProof, BecomesRefutation, IsProblem, IsProgramOf, Has-filter, filter_parts, var_cmp_total, by_test, Values, Multipliers}
use Rattle.row_core.specs.declared.Sense.TheVariants.{Least}
use Rattle.written_method.specs.Certificates as solver
use Rattle.certificate_checker.specs.Certificates as checker
use Rattle.certificate_checker.specs.Plans as plans
use Rattle.certificate_checker.specs.Sums as sums
use Rattle.variable_elimination.specs.Certified as carried
use Rattle.variable_elimination.specs.Lifts as lifts
use Rattle.variable_elimination.proofs.ProvenLaws.{refutes}
use Rattle.row_problem.proofs.CostLaws.{IsOtherCost, chosen-plain, other-cost}
use Rattle.row_problem.proofs.ProblemLaws.{Has-from_test, IsAmong-from_Has, variable-known}

-- ---- plans

-- no value is below 0 that must not be
abbrev NoneIsBelow : (Var → ℤ) → Type 0
NoneIsBelow x = (v : Var) → kind_is_free v.kind ≡ false → pos 0 ≤ℤ x v

value_in-none : (values : Values) (v : Var) → is_among (keys_of values) v ≡ false → value_in var_cmp values v ≡ whole (pos 0)
value_in-none [] v h = refl
value_in-none (e ∷ es) v h =
    let parts = neither (is_eq (var_cmp v e.0)) (is_among (keys_of es) v) h in
    rw (turned e.0 v ∙ parts.0) (value_in-none es v parts.1)

not_split : (v : Var) → kind_is_free v.kind ≡ false → is_split v ≡ false
not_split v h = by_test (is_split v) (λ is. let free : kind_is_free v.kind ≡ true = ap kind_is_free (eqb-true v.kind TRADE is) in absurd (cc (h, free))) (λ is. is)

-- nor is any where those of the columns aren't, and there are no others
columns_right : (columns : List Var) (values : Values) (q : ℕ) (x : Var → ℤ) → keys_of values ≡ columns → plans.AreValuesOver q x values
    → ((v : Var) → IsAmong v columns → is_split v ≡ false → pos 0 ≤ℤ x v) → NoneIsBelow x
columns_right columns values q x same over signs v free = by_test (is_among columns v) (λ is. signs v (IsAmong-from_Has columns v (Has-from_test columns v is)) (not_split v free))
    (λ is.
    let none = rw (value_in-none values v (rw same is)) at (over.1 v) in
    let zero_is : x v ≡ pos 0 = sym (*ℤ-one (x v)) ∙ none.cross ∙ zero-*ℤ (pos q) in
    omega (arith, ints, zero_is))

rows_met : (q : ℕ) (x : Var → ℤ) (rows : List Row) → solver.MeetRows (pos q) x (map inequality_of rows) → lifts.AllStand (lifts.right_times q) rows x
rows_met q x [] h = tt
rows_met q x (row ∷ rows) h = (h.0, rows_met q x rows h.1)

rows_met_at_0 : (x : Var → ℤ) (rows : List Row) → solver.MeetRows (pos 0) x (map inequality_of rows) → lifts.AllStand lifts.right_zero rows x
rows_met_at_0 x [] h = tt
rows_met_at_0 x (row ∷ rows) h = (subst (Stands row.sense (row_sum x row.entries.items)) (*ℤ-zero row.rhs) h.0, rows_met_at_0 x rows h.1)

rows_stand : (right : Row → ℤ) (rows : List Row) (x : Var → ℤ) → lifts.AllStand right rows x → plans.AllStand right rows x
rows_stand right [] x h = tt
rows_stand right (row ∷ rows) x h = (h.0, rows_stand right rows x h.1)

right_signs : (vars : List Var) (x : Var → ℤ) → NoneIsBelow x → plans.HaveRightSigns vars x
right_signs [] x h = tt
right_signs (v ∷ vars) x h = (by_test (kind_is_free v.kind) (λ is. rw is tt) (λ is. rw is (h v is)), right_signs vars x h)

positive : (n : ℕ) → 0 < n → pos 0 <ℤ pos n
positive n h = omega (arith, ints, h)

-- a value that is at least 0 over one number is over another
same_sign : (q p : ℕ) (r : Rational) (x z : ℤ) → 0 < q → IsOver (pos q) r x → IsOver (pos p) r z → pos 0 ≤ℤ x → pos 0 ≤ℤ z
same_sign q p r x z hq over_x over_z h =
    let cross : z *ℤ pos q ≡ x *ℤ pos p = IsOver-agree (pos p) (pos q) r z x over_z over_x in
    let up : pos 0 ≤ℤ (x *ℤ pos p) = *ℤ_nonnegative x (pos p) h (omega (arith, ints)) in
    let zero_is = zero-*ℤ (pos q) in
    ≤ℤ_cancel (pos 0) z (pos q) (positive q hq) (omega (arith, ints))

module _ (rows : List Row) (vars others : List Var) (reduced : Reduced) (values made : Values) (kept : lifts.KeepsOthers others values made) (right : lifts.MakesRight others made) where
  none_below : (q p : ℕ) (x z : Var → ℤ) → plans.AreValuesOver q x values → plans.AreValuesOver p z made → NoneIsBelow x → NoneIsBelow z
  none_below q p x z over_x over_z h =
      right p z over_z.0 over_z.1 (λ v free apart. same_sign q p (value_in var_cmp values v) (x v) (z v) over_x.0 (over_x.1 v) (subst (λ r. IsOver (pos p) r (z v)) (kept v apart) (over_z.1 v)) (h v free))

  pub becomes_plan : lifts.CarriesPlan rows reduced.rows.items values made → BecomesPlan rows vars reduced values made
  becomes_plan carries q p x z same over_x over_z meets = record {
    positive = over_z.0;
    rows_hold = rows_stand (lifts.right_times p) rows z (carries q p x z over_x.0 over_z.0 over_x.1 over_z.1 (rows_met q x reduced.rows.items meets.rows));
    signs = right_signs vars z (none_below q p x z over_x over_z (columns_right reduced.columns.items values q x same over_x meets.signs));
  }

  pub becomes_direction : lifts.CarriesDirection rows reduced.rows.items values made → BecomesDirection rows vars reduced values made
  becomes_direction carries q p x z same over_x over_z meets = (
    rows_stand lifts.right_zero rows z (carries q p x z over_x.0 over_z.0 over_x.1 over_z.1 (rows_met_at_0 x reduced.rows.items meets.rows)),
    right_signs vars z (none_below q p x z over_x over_z (columns_right reduced.columns.items values q x same over_x meets.signs)),
  )

-- as the calls answer
module _ (rows : List Row) (vars others : List Var) (reduced : Reduced) (values : Values) where
  pub plan_answer : (answer : Result Values Stopped) → IfOk answer (lifts.KeepsOthers others values) → IfOk answer (lifts.MakesRight others) → IfOk answer (lifts.CarriesPlan rows reduced.rows.items values)
      → IfOk answer (BecomesPlan rows vars reduced values)
  plan_answer (Ok made) kept right carries = becomes_plan rows vars others reduced values made kept right carries
  plan_answer (Err e) kept right carries = tt

  pub direction_answer : (answer : Result Values Stopped) → IfOk answer (lifts.KeepsOthers others values) → IfOk answer (lifts.MakesRight others) → IfOk answer (lifts.CarriesDirection rows reduced.rows.items values)
      → IfOk answer (BecomesDirection rows vars reduced values)
  direction_answer (Ok made) kept right carries = becomes_direction rows vars others reduced values made kept right carries
  direction_answer (Err e) kept right carries = tt

-- ---- multipliers

-- there are as many scales as rows
pub as_many : (definitions named rows : List Row) (scales : List Frac) → AreReductions definitions named rows scales → length scales ≡ length rows
as_many definitions [] rows scales h = ap length h.1 ∙ sym (ap length h.0)
as_many definitions (row ∷ others) rows scales (inl h) = as_many definitions others rows scales h.1
as_many definitions (row ∷ others) rows scales (inr (new, scale, more, more_scales, e, f, r, h)) = ap length f ∙ ap suc (as_many definitions others more more_scales h) ∙ sym (ap length e)

sum_same : (y : RowName → ℤ) (f : Row → ℤ) (rows : List Row) → carried.weighted y f rows ≡ sums.weighted y f rows
sum_same y f [] = refl
sum_same y f (row ∷ rows) = ap (λ z. (y row.name *ℤ f row) +ℤ z) (sum_same y f rows)

signed : (y : RowName → ℤ) (rows : List Row) → carried.AreSigned y rows → checker.AreSigned y rows
signed y [] h = tt
signed y (row ∷ rows) h = (cases row.sense h.0, signed y rows h.1)
  where
    cases : (sense : Sense) → solver.HasSign sense (y row.name) → checker.IsSigned sense (y row.name)
    cases Least k = k
    cases Equal k = tt
    cases Most k = k

all_within : (y : RowName → ℤ) (rows : List Row) (cost : Var → ℤ) (vars : List Var) → ((v : Var) → Has vars v → checker.IsWithin (kind_is_free v.kind) (carried.column_sum y rows v) (cost v)) → checker.AreWithin vars (sums.column_sum y rows) cost
all_within y rows cost [] h = tt
all_within y rows cost (v ∷ vars) h = (
  subst (λ z. checker.IsWithin (kind_is_free v.kind) z (cost v)) (sum_same y (λ row. number_at row.entries.items v) rows) (h v (inl refl)),
  all_within y rows cost vars (λ w k. h w (inr k)),
)

exactly : (free : Bool) (a b : ℤ) → a ≡ b → checker.IsWithin free a b
exactly true a b e = e
exactly false a b e = omega (arith, ints)

-- a column's sum that is that of the linear program, but for its number in the cost
kept-within : (free : Bool) (own sum left t cost : ℤ) → pos 0 <ℤ own → own *ℤ sum ≡ (own *ℤ left) +ℤ (t +ℤ (own *ℤ cost)) → solver.IsWithin free (own *ℤ left) (neg_ℤ t) → checker.IsWithin free sum cost
kept-within true own sum left t cost h e k = *ℤ_cancel sum cost own (nonzero_of_pos own h) (*ℤ_comm sum own ∙ e ∙ cancels (own *ℤ left) t (own *ℤ cost) k ∙ *ℤ_comm own cost)
  where
    cancels : (a t b : ℤ) → a ≡ neg_ℤ t → a +ℤ (t +ℤ b) ≡ b
    cancels a t b h = omega (arith, ints)
kept-within false own sum left t cost h e k =
    let a = *ℤ_comm sum own in
    let b = *ℤ_comm cost own in
    ≤ℤ_cancel sum cost own h (omega (arith, ints))

to-checker : (free : Bool) (a b : ℤ) → solver.IsWithin free a b → checker.IsWithin free a b
to-checker true a b h = h
to-checker false a b h = h

-- ---- multipliers that keep a cost

-- each defined variable's column sums up to its number in the cost, and the other columns, the signs and the bound are those of the linear program
record KeepCost (weight : Var → ℤ) (rows : List Row) (vars : List Var) (reduced : Reduced) (s : ℤ) (y : RowName → ℤ) (l : ℕ → ℤ) : Type 0 where
  signs : solver.HaveSigns l 0 (program_of reduced).rows → carried.AreSigned y rows
  on_defined : (v : Var) → is_among vars v ≡ true → carried.column_sum y rows v ≡ weight v *ℤ s
  on_columns : (v : Var) → is_among vars v ≡ false → is_column v ≡ true
      → reduced.cost_own *ℤ carried.column_sum y rows v
      ≡ (reduced.cost_own *ℤ solver.number_sum l 0 (program_of reduced).rows v) +ℤ ((s *ℤ number_at reduced.cost.items v) +ℤ (reduced.cost_own *ℤ (weight v *ℤ s)))
  bound : reduced.cost_own *ℤ carried.bound_of y rows ≡ (reduced.cost_own *ℤ solver.right_sum l 0 (program_of reduced).rows) +ℤ (s *ℤ reduced.cost_rhs)

module _ (rows : List Row) (defs : List (Option Var)) (vars : List Var) (reduced : Reduced) (s : ℤ) (y : RowName → ℤ) (l : ℕ → ℤ) where
  abbrev ds : List Var
  ds = defined (definitions_of rows defs)

  -- the model's cost
  keep-model : carried.KeepBound rows ds reduced s y l → KeepCost (weight_of Model) rows ds reduced s y l
  keep-model keep = record {
    signs = keep.signs;
    on_defined = keep.defined;
    on_columns = λ v beyond c.
        let own = reduced.cost_own in
        let nothing : own *ℤ (weight_of Model v *ℤ s) ≡ pos 0 = ap (λ z. own *ℤ (z *ℤ s)) (chosen-plain v c).1 ∙ ap (λ z. own *ℤ z) (zero-*ℤ s) ∙ *ℤ-zero own in
        keep.columns v beyond ∙ ap (λ z. (own *ℤ solver.number_sum l 0 (program_of reduced).rows v) +ℤ z) (with_nothing (s *ℤ number_at reduced.cost.items v) (own *ℤ (weight_of Model v *ℤ s)) nothing);
    bound = keep.bound;
  }
    where
      with_nothing : (a b : ℤ) → b ≡ pos 0 → a ≡ a +ℤ b
      with_nothing a b h = omega (arith, ints)

  -- another one, without which they were carried back
  keep-other : (cost : Cost) → IsOtherCost rows defs vars cost reduced → carried.KeepSum rows ds reduced y l → KeepCost (weight_of cost) rows ds reduced s y l
  keep-other cost other keep = record {
    signs = keep.signs;
    on_defined = λ v h. keep.defined v h ∙ sym (ap (λ z. z *ℤ s) (other.undefined v h) ∙ zero-*ℤ s);
    on_columns = λ v beyond c.
        ap (λ z. reduced.cost_own *ℤ z) (keep.columns v beyond)
        ∙ cancelled (reduced.cost_own *ℤ solver.number_sum l 0 (program_of reduced).rows v) s (number_at reduced.cost.items v) (weight_of cost v) reduced.cost_own (other.numbers v) other.own;
    bound =
        ap (λ z. reduced.cost_own *ℤ z) keep.bound
        ∙ with_nothing (reduced.cost_own *ℤ solver.right_sum l 0 (program_of reduced).rows) (s *ℤ reduced.cost_rhs) (ap (λ z. s *ℤ z) other.right_side ∙ *ℤ-zero s);
  }
    where
      with_nothing : (a b : ℤ) → b ≡ pos 0 → a ≡ a +ℤ b
      with_nothing a b h = omega (arith, ints)

      cancelled : (a s n w own : ℤ) → n ≡ neg_ℤ w → own ≡ pos 1 → a ≡ a +ℤ ((s *ℤ n) +ℤ (own *ℤ (w *ℤ s)))
      cancelled a s n w own e f = with_nothing a ((s *ℤ n) +ℤ (own *ℤ (w *ℤ s))) (ap (λ z. (s *ℤ z) +ℤ (own *ℤ (w *ℤ s))) e ∙ ap (λ z. (s *ℤ neg_ℤ w) +ℤ (z *ℤ (w *ℤ s))) f ∙ nothing s w)
        where
          nothing : (s w : ℤ) → (s *ℤ neg_ℤ w) +ℤ (pos 1 *ℤ (w *ℤ s)) ≡ pos 0
          nothing s w = let e = turned_sign s w in let o = one_is (w *ℤ s) in omega (arith, ints)
            where
              turned_sign : (s w : ℤ) → s *ℤ neg_ℤ w ≡ neg_ℤ (w *ℤ s)
              turned_sign s w = simp ring

              one_is : (z : ℤ) → pos 1 *ℤ z ≡ z
              one_is z = omega (arith, ints)

module _ (rows : List Row) (defs : List (Option Var)) (vars : List Var) (problem : IsProblem rows defs vars) (reduced : Reduced) (columns : reduced.columns.items ≡ filter is_column vars) where
  abbrev removed : List Var
  removed = defined (definitions_of rows defs)

  column-in : (v : Var) → Has vars v → is_column v ≡ true → IsAmong v reduced.columns.items
  column-in v h c = IsAmong-from_Has reduced.columns.items v (subst (λ vs. Has vs v) (sym columns) (Has-filter is_column vars v h c))

  chosen : AreChosen reduced.columns.items
  chosen v h = (filter_parts is_column vars v (subst (λ vs. Has vs v) columns (Has-from_Contains reduced.columns.items v h))).1

  pub becomes_refutation : (lambda : List Frac) (made : Multipliers) → carried.CarriesSum rows removed reduced lambda made → BecomesRefutation rows vars reduced lambda made
  becomes_refutation lambda made carries s y l over from refute =
      let keep = carries (pos s) y l (positive s over.0) over.1 from in
      let proved = refutes rows removed reduced y l chosen keep refute in
      record {
        proves = record {
          signs = signed y rows proved.signs;
          columns = all_within y rows (λ v. no_cost v *ℤ pos s) vars (λ v h.
              subst (checker.IsWithin (kind_is_free v.kind) (carried.column_sum y rows v)) (sym (zero-*ℤ (pos s)))
              (to-checker (kind_is_free v.kind) (carried.column_sum y rows v) (pos 0) (proved.within v (known v h))));
        };
        positive = subst (λ z. pos 0 <ℤ z) (sum_same y (λ row. row.rhs) rows) proved.positive;
      }
    where
      known : (v : Var) → Has vars v → carried.IsKnown removed reduced.columns.items v
      known v h = elim (variable-known rows defs vars problem v h) [ inl there ↦ inl there | inr c ↦ inr (column-in v h c) ]

  pub refutation_answer : (lambda : List Frac) (answer : Result Multipliers Stopped) → IfOk answer (carried.CarriesSum rows removed reduced lambda) → IfOk answer (BecomesRefutation rows vars reduced lambda)
  refutation_answer lambda (Ok made) carries = becomes_refutation lambda made carries
  refutation_answer lambda (Err e) carries = tt

module _ (rows : List Row) (defs : List (Option Var)) (vars : List Var) (cost : Cost) (reduced : Reduced) (program : IsProgramOf rows defs vars cost reduced) where
  abbrev others : List Var
  others = defined (definitions_of rows defs)

  becomes_proof : (lambda : List Frac) (made : Multipliers)
      → ((s : ℤ) (y : RowName → ℤ) (l : ℕ → ℤ) → pos 0 <ℤ s → carried.AreNamedOver s y (value_in row_name_cmp made) → solver.AreOverFrom s l 0 (map value_of lambda) → KeepCost (weight_of cost) rows others reduced s y l)
      → BecomesProof (weight_of cost) rows vars reduced lambda made
  becomes_proof lambda made carries s y l over from =
      let keep = carries (pos s) y l (positive s over.0) over.1 from in
      let weight = weight_of cost in
      record {
        proves = λ bounds.
            record {
              signs = signed y rows (keep.signs bounds.signs);
              columns = all_within y rows (λ v. weight v *ℤ pos s) vars (λ v h. by_test (is_among others v)
                  (λ is. exactly (kind_is_free v.kind) (carried.column_sum y rows v) (weight v *ℤ pos s) (keep.on_defined v is))
                  (λ is. elim (variable-known rows defs vars program.problem v h) [
                    | inl there ↦ absurd (cc (is, there))
                    | inr c ↦
                        rw (sym (chosen-plain v c).0)
                        (kept-within (is_split v) reduced.cost_own (carried.column_sum y rows v) (solver.number_sum l 0 (program_of reduced).rows v) (pos s *ℤ number_at reduced.cost.items v) (weight v *ℤ pos s) program.ready.own_positive (keep.on_columns v is c) (bounds.columns v (column-in rows defs vars program.problem reduced program.columns v h c)))
                  ]));
            };
        bound = ap (λ z. reduced.cost_own *ℤ z) (sym (sum_same y (λ row. row.rhs) rows)) ∙ keep.bound;
      }

  pub proof_answer : (with_cost : Bool) (lambda : List Frac) (answer : Result Multipliers Stopped) → with_cost ≡ is_model cost → (with_cost ≡ true → IsWhole rows defs reduced → IfOk answer (carried.CarriesBound rows others reduced lambda))
      → (with_cost ≡ false → IsPartOf rows defs reduced → IfOk answer (carried.CarriesSum rows others reduced lambda)) → IfOk answer (BecomesProof (weight_of cost) rows vars reduced lambda)
  proof_answer with_cost lambda (Err e) is bounds sums = tt
  proof_answer with_cost lambda (Ok made) is bounds sums = becomes_proof lambda made (by_cost cost refl)
    where
      without : (k : Cost) → is_model k ≡ false → cost ≡ k → (s : ℤ) (y : RowName → ℤ) (l : ℕ → ℤ) → pos 0 <ℤ s → carried.AreNamedOver s y (value_in row_name_cmp made) → solver.AreOverFrom s l 0 (map value_of lambda) → KeepCost (weight_of cost) rows others reduced s y l
      without k other e s y l h over from =
          let no : is_model cost ≡ false = ap is_model e ∙ other in
          keep-other rows defs vars reduced s y l cost (other-cost rows defs vars cost reduced program no) (sums (is ∙ no) program.part s y l h over from)

      by_cost : (k : Cost) → cost ≡ k → (s : ℤ) (y : RowName → ℤ) (l : ℕ → ℤ) → pos 0 <ℤ s → carried.AreNamedOver s y (value_in row_name_cmp made) → solver.AreOverFrom s l 0 (map value_of lambda) → KeepCost (weight_of cost) rows others reduced s y l
      by_cost Model e = λ s y l h over from.
          subst (λ k. KeepCost (weight_of k) rows others reduced s y l) (sym e) (keep-model rows defs vars reduced s y l (bounds (is ∙ ap is_model e) (program.whole e) s y l h over from))
      by_cost (One var goal) e = without (One var goal) refl e
