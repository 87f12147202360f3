-- Values that are carried back meet the definitions, over whatever number they are written, and then all named rows.
use Rattle.variable_elimination.proofs.Common.{◌≡◌, ℕ, ◌<◌, ℤ, pos, ◌+ℤ◌, ◌*ℤ◌, true, false, not, List, [], ◌∷◌, inl, inr, length, refl, sym, ap, ap₂, ◌∙◌, subst, arith, if◌then◌else◌, Option, Some, None, ⊤, ◌<ℤ◌, ◌≤ℤ◌, int_le, insert_entry, is_eq, int_eq, ints, nat_tests, Rational, value_of, Frac, *ℤ_nonnegative, zero-*ℤ, *ℤ-zero, *ℤ_comm, Row, Sense, Least, Equal, Most, Var, AreOver, var_cmp, value_in, row_sum, RowHolds, Stands, stands, IsOver, alone, both_passed, row_sum-alone, Stands-times, var_cmp_exact, var_cmp_total, IsOver-agree, Definition, definitions_of, others_of, rows_of, defined, is_among, own_of, avoids, AreTriangular, other_entries, has_entries, lifted_value, lifted, right_side, no_right_side, AvoidAll, AllStand, right_times, right_zero, KeepsOthers, CarriesPlan, CarriesDirection, MakesRight, excess, AreMet, KeepSigns, AreReductions}
use Rattle.variable_elimination.proofs.SolvedLaws.{sum_of, row_sum-is, AreOverAt, split_at, solved-meets}
use Rattle.variable_elimination.proofs.ValueSteps.{value_in-insert}
use Rattle.variable_elimination.proofs.LiftLaws.{alike, from_not, neither, row_sum-avoids, row_sum-times, at_most, product_down, lifted_signs}
use Rattle.variable_elimination.proofs.ReductionLaws.{reduced_says, lifted_holds}
use Rattle.variable_elimination.proofs.VariableLaws.{itself}

-- ---- values of other variables

-- variables that aren't defined keep their values
pub lifted-others : (right : Definition → ℤ) (ds : List Definition) (values : List (Var × Rational)) → KeepsOthers (defined ds) values (lifted right ds values)
lifted-others right [] values w h = refl
lifted-others right (d ∷ ds) values w h =
    let parts = neither (is_eq (var_cmp w d.variable)) (is_among (defined ds) w) h in
    lifted-others right ds (insert_entry var_cmp values d.variable (lifted_value right (value_in var_cmp values) d)) w parts.1
    ∙ value_in-insert var_cmp var_cmp_total values d.variable (lifted_value right (value_in var_cmp values) d) w
    ∙ ap (λ t. if t then lifted_value right (value_in var_cmp values) d else value_in var_cmp values w) parts.0

-- ---- one definition

exactly : (v w : Var) → is_eq (var_cmp v w) ≡ true → v ≡ w
exactly v w h = var_cmp_exact v w (alike (var_cmp v w) h)

-- a row's sum is the variable's part and the others
pub split : (z : Var → ℤ) (v : Var) (es : List (Var × ℤ)) → row_sum z es ≡ (row_sum (alone v) es *ℤ z v) +ℤ row_sum z (other_entries var_cmp v es)
split z v es = row_sum-is z es ∙ split_at var_cmp exactly z v es ∙ ap₂ (λ a b. (a *ℤ z v) +ℤ b) (sym (row_sum-is (alone v) es)) (sym (row_sum-is z (other_entries var_cmp v es)))

over_at : (q : ℤ) (value : Var → Rational) (z : Var → ℤ) (later : List Var) (v : Var) (es : List (Var × ℤ)) → avoids later es ≡ true → ((w : Var) → is_among later w ≡ false → is_eq (var_cmp w v) ≡ false → IsOver q (value w) (z w)) → AreOverAt var_cmp q value z v es
over_at q value z later v [] h over = tt
over_at q value z later v (e ∷ es) h over =
    let parts = both_passed (not (is_among later e.0)) (avoids later es) h in
    (over e.0 (from_not (is_among later e.0) parts.0), over_at q value z later v es parts.1 over)

-- the definition is met where its variable has the value that it gives
value-meets : (right : ℤ) (d : Definition) (later : List Var) (value : Var → Rational) (p : ℤ) (z : Var → ℤ) → pos 0 <ℤ p → pos 0 <ℤ own_of d → avoids later d.row.entries.items ≡ true
    → ((w : Var) → is_among later w ≡ false → is_eq (var_cmp w d.variable) ≡ false → IsOver p (value w) (z w)) → IsOver p (lifted_value (λ e. right) value d) (z d.variable) → row_sum z d.row.entries.items ≡ right *ℤ p
value-meets right d later value p z hp hown apart over here =
    let es = d.row.entries.items in
    let own : own_of d ≡ sum_of (alone d.variable) es = sym (row_sum-alone d.variable es d.row.ascending) ∙ row_sum-is (alone d.variable) es in
    row_sum-is z es ∙ solved-meets var_cmp exactly right p z value d.variable es (own_of d) hp hown own (over_at p value z later d.variable es apart over) here

-- ---- all definitions

-- each definition's sum is its right side
abbrev pub AreMetBy : (Definition → ℤ) → List Definition → ℤ → (Var → ℤ) → Type 0
AreMetBy right [] p z = ⊤
AreMetBy right (d ∷ ds) p z = (row_sum z d.row.entries.items ≡ right d *ℤ p) × AreMetBy right ds p z

-- lifted values meet all of them, whatever the other values are
pub lifted_meet : (right : Definition → ℤ) (ds : List Definition) (values : List (Var × Rational)) (p : ℤ) (z : Var → ℤ) → pos 0 <ℤ p → AreTriangular ds → AreOver p z (value_in var_cmp (lifted right ds values)) → AreMetBy right ds p z
lifted_meet right [] values p z hp h over = tt
lifted_meet right (d ∷ ds) values p z hp h over = (
  value-meets (right d) d (defined ds) (value_in var_cmp values) p z hp h.0.positive h.1 elsewhere here,
  lifted_meet right ds next p z hp h.3 over,
)
  where
    made : Rational
    made = lifted_value right (value_in var_cmp values) d

    next : List (Var × Rational)
    next = insert_entry var_cmp values d.variable made

    elsewhere : (w : Var) → is_among (defined ds) w ≡ false → is_eq (var_cmp w d.variable) ≡ false → IsOver p (value_in var_cmp values w) (z w)
    elsewhere w k l =
        subst (λ r. IsOver p r (z w)) (lifted-others right ds next w k ∙ value_in-insert var_cmp var_cmp_total values d.variable made w ∙ ap (λ t. if t then made else value_in var_cmp values w) l) (over w)

    here : IsOver p made (z d.variable)
    here =
        subst (λ r. IsOver p r (z d.variable))
        (lifted-others right ds next d.variable (from_not (is_among (defined ds) d.variable) h.2) ∙ value_in-insert var_cmp var_cmp_total values d.variable made d.variable
        ∙ ap (λ o. if is_eq o then made else value_in var_cmp values d.variable) (itself d.variable))
        (over d.variable)

-- the same as definitions that are met by a plan, and by a direction, which is a plan over 0
pub plan_met : (ds : List Definition) (p : ℤ) (z : Var → ℤ) → AreMetBy right_side ds p z → AreMet ds p z
plan_met [] p z h = tt
plan_met (d ∷ ds) p z h = ((let first : row_sum z d.row.entries.items ≡ d.row.rhs *ℤ p = h.0 in omega (arith, ints)), plan_met ds p z h.1)

pub direction_met : (ds : List Definition) (p : ℤ) (z : Var → ℤ) → AreMetBy no_right_side ds p z → AreMet ds (pos 0) z
direction_met [] p z h = tt
direction_met (d ∷ ds) p z h = (
  (let first : row_sum z d.row.entries.items ≡ pos 0 *ℤ p = h.0 in let a = zero-*ℤ p in let b = *ℤ-zero d.row.rhs in omega (arith, ints)),
  direction_met ds p z h.1,
)

-- ---- the named rows

-- each row holds of numbers over q; over 0 its right side is 0
abbrev pub AllHold : List Row → ℕ → (Var → ℤ) → Type 0
AllHold rows q x = AllStand (right_times q) rows x

at_least : (z : ℤ) → int_le (pos 0) z ≡ true → pos 0 ≤ℤ z
at_least z h = grind (arith, ints, nat_tests)

equal_to : (z : ℤ) → int_eq (pos 0) z ≡ true → pos 0 ≡ z
equal_to z h = grind (arith, ints, nat_tests)

-- a right side to which 0 stands, times any number
stands_to_times : (sense : Sense) (right : ℤ) (q : ℕ) → stands sense (pos 0) right ≡ true → Stands sense (pos 0) (right *ℤ pos q)
stands_to_times Least right q h = product_down right (pos q) (at_most right h) (omega (arith, ints))
stands_to_times Equal right q h = sym (zero-*ℤ (pos q)) ∙ ap (λ z. z *ℤ pos q) (equal_to right h)
stands_to_times Most right q h = *ℤ_nonnegative right (pos q) (at_least right h) (omega (arith, ints))

nothing_there : (x : Var → ℤ) (es : List (Var × ℤ)) → has_entries es ≡ false → pos 0 ≡ row_sum x es
nothing_there x [] h = refl
nothing_there x (e ∷ es) h = absurd (cc h)

pub empty_holds : (row : Row) (q : ℕ) (x : Var → ℤ) → has_entries row.entries.items ≡ false → stands row.sense (pos 0) row.rhs ≡ true → RowHolds row q x
empty_holds row q x h k = subst (λ z. Stands row.sense z (row.rhs *ℤ pos q)) (nothing_there x row.entries.items h) (stands_to_times row.sense row.rhs q k)

others_hold : (ds : List Definition) (others rows : List Row) (scales : List Frac) (q : ℕ) (x : Var → ℤ) → AreReductions (rows_of ds) others rows scales → AreMet ds (pos q) x → AllHold rows q x → AllHold others q x
others_hold ds [] rows scales q x h met holds = tt
others_hold ds (named ∷ others) rows scales q x (inl (dropped, h)) met holds = (
  (reduced_says ds named (value_of dropped.scale) dropped.new q x dropped.reduction.reduced dropped.reduction.sense met).0 (empty_holds dropped.new q x dropped.empty dropped.holds),
  others_hold ds others rows scales q x h met holds,
)
others_hold ds (named ∷ others) rows scales q x (inr (new, scale, more, more_scales, e, f, r, h)) met holds =
    let parts : AllHold (new ∷ more) q x = subst (λ (rs : List Row). AllHold rs q x) e holds in
    ((reduced_says ds named (value_of scale) new q x r.reduced r.sense met).0 parts.0, others_hold ds others more more_scales q x h met parts.1)

pub defined_holds : (d : Definition) (q : ℕ) (x : Var → ℤ) → d.row.sense ≡ Equal → excess d.row (pos q) x ≡ pos 0 → RowHolds d.row q x
defined_holds d q x e met =
    let same : row_sum x d.row.entries.items ≡ d.row.rhs *ℤ pos q = omega (arith, ints) in
    subst (λ s. Stands s (row_sum x d.row.entries.items) (d.row.rhs *ℤ pos q)) (sym e) same

-- the definitions and the others are all rows
all_hold : (rows : List Row) (defs : List (Option Var)) (q : ℕ) (x : Var → ℤ) → length defs ≡ length rows → AreTriangular (definitions_of rows defs) → AreMet (definitions_of rows defs) (pos q) x → AllHold (others_of rows defs) q x → AllHold rows q x
all_hold [] defs q x same h met others = tt
all_hold (row ∷ rows) [] q x same h met others = absurd (omega arith)
all_hold (row ∷ rows) (None ∷ defs) q x same h met others = (others.0, all_hold rows defs q x (omega arith) h met others.1)
all_hold (row ∷ rows) (Some v ∷ defs) q x same h met others =
    (defined_holds (record { row = row; variable = v }) q x h.0.equal met.0, all_hold rows defs q x (omega arith) h.3 met.1 others)

-- ---- from the values to what was made of them

-- a sum over entries that avoid the defined variables is the same of both, but for the number over which they are written
kept_sum : (vars : List Var) (es : List (Var × ℤ)) (q p : ℤ) (x z : Var → ℤ) → avoids vars es ≡ true → ((v : Var) → is_among vars v ≡ false → z v *ℤ q ≡ x v *ℤ p) → row_sum z es *ℤ q ≡ row_sum x es *ℤ p
kept_sum vars es q p x z apart agree =
    *ℤ_comm (row_sum z es) q ∙ sym (row_sum-times q z es)
    ∙ row_sum-avoids (λ v. q *ℤ z v) (λ v. p *ℤ x v) vars es apart (λ v k. *ℤ_comm q (z v) ∙ agree v k ∙ *ℤ_comm (x v) p)
    ∙ row_sum-times p x es ∙ *ℤ_comm p (row_sum x es)

module _ (vars : List Var) (values made : List (Var × Rational)) (others : KeepsOthers vars values made) (q p : ℕ) (x z : Var → ℤ) (hq : 0 < q) (hp : 0 < p) (over : AreOver (pos q) x (value_in var_cmp values)) (over_made : AreOver (pos p) z (value_in var_cmp made)) where
  agree : (v : Var) → is_among vars v ≡ false → z v *ℤ pos q ≡ x v *ℤ pos p
  agree v k = IsOver-agree (pos p) (pos q) (value_in var_cmp values v) (z v) (x v) (subst (λ r. IsOver (pos p) r (z v)) (others v k) (over_made v)) (over v)

  pub reduced_hold : (rows : List Row) → AvoidAll vars rows → AllStand (right_times q) rows x → AllStand (right_times p) rows z
  reduced_hold [] h k = tt
  reduced_hold (row ∷ rows) h k = (lifted_holds vars row q p x z hq hp h.0 agree k.0, reduced_hold rows h.1 k.1)

  zero_stands : (row : Row) → avoids vars row.entries.items ≡ true → Stands row.sense (row_sum x row.entries.items) (pos 0) → Stands row.sense (row_sum z row.entries.items) (pos 0)
  zero_stands row apart k =
      let es = row.entries.items in
      let there : Stands row.sense (row_sum x es *ℤ pos p) (pos 0 *ℤ pos p) = (Stands-times row.sense (row_sum x es) (pos 0) (pos p) (omega (arith, ints))).0 k in
      let zeros : pos 0 *ℤ pos p ≡ pos 0 *ℤ pos q = zero-*ℤ (pos p) ∙ sym (zero-*ℤ (pos q)) in
      (Stands-times row.sense (row_sum z es) (pos 0) (pos q) (omega (arith, ints))).1
      (subst (λ y. Stands row.sense y (pos 0 *ℤ pos q)) (sym (kept_sum vars es (pos q) (pos p) x z apart agree)) (subst (λ y. Stands row.sense (row_sum x es *ℤ pos p) y) zeros there))

  pub reduced_stand : (rows : List Row) → AvoidAll vars rows → AllStand right_zero rows x → AllStand right_zero rows z
  reduced_stand [] h k = tt
  reduced_stand (row ∷ rows) h k = (zero_stands row h.0 k.0, reduced_stand rows h.1 k.1)

-- right sides over 0 are 0
to_zero : (rows : List Row) (z : Var → ℤ) → AllHold rows 0 z → AllStand right_zero rows z
to_zero [] z h = tt
to_zero (row ∷ rows) z h = (subst (λ r. Stands row.sense (row_sum z row.entries.items) r) (*ℤ-zero row.rhs) h.0, to_zero rows z h.1)

from_zero : (rows : List Row) (z : Var → ℤ) → AllStand right_zero rows z → AllHold rows 0 z
from_zero [] z h = tt
from_zero (row ∷ rows) z h = (subst (λ r. Stands row.sense (row_sum z row.entries.items) r) (sym (*ℤ-zero row.rhs)) h.0, from_zero rows z h.1)

module _ (rows : List Row) (defs : List (Option Var)) (values : List (Var × Rational)) (same : length defs ≡ length rows) (triangular : AreTriangular (definitions_of rows defs)) where
  abbrev ds : List Definition
  ds = definitions_of rows defs

  pub carries_plan : (reduced : List Row) (scales : List Frac) → AreReductions (rows_of ds) (others_of rows defs) reduced scales → AvoidAll (defined ds) reduced → CarriesPlan rows reduced values (lifted right_side ds values)
  carries_plan reduced scales r apart q p x z hq hp over over_made holds =
      let met : AreMet ds (pos p) z = plan_met ds (pos p) z (lifted_meet right_side ds values (pos p) z (omega (arith, ints)) triangular over_made) in
      all_hold rows defs p z same triangular met
      (others_hold ds (others_of rows defs) reduced scales p z r met (reduced_hold (defined ds) values (lifted right_side ds values) (lifted-others right_side ds values) q p x z hq hp over over_made reduced apart holds))

  pub carries_direction : (reduced : List Row) (scales : List Frac) → AreReductions (rows_of ds) (others_of rows defs) reduced scales → AvoidAll (defined ds) reduced → CarriesDirection rows reduced values (lifted no_right_side ds values)
  carries_direction reduced scales r apart q p x z hq hp over over_made holds =
      let met : AreMet ds (pos 0) z = direction_met ds (pos p) z (lifted_meet no_right_side ds values (pos p) z (omega (arith, ints)) triangular over_made) in
      to_zero rows z
      (all_hold rows defs 0 z same triangular met
      (others_hold ds (others_of rows defs) reduced scales 0 z r met (from_zero reduced z (reduced_stand (defined ds) values (lifted no_right_side ds values) (lifted-others no_right_side ds values) q p x z hq hp over over_made reduced apart holds))))

-- ---- signs

pub plan_right : (ds : List Definition) (values : List (Var × Rational)) → AreTriangular ds → KeepSigns ds → MakesRight (defined ds) (lifted right_side ds values)
plan_right ds values triangular keep p z hp over given =
    lifted_signs ds p z triangular keep (plan_met ds (pos p) z (lifted_meet right_side ds values (pos p) z (omega (arith, ints)) triangular over)) given

pub direction_right : (ds : List Definition) (values : List (Var × Rational)) → AreTriangular ds → KeepSigns ds → MakesRight (defined ds) (lifted no_right_side ds values)
direction_right ds values triangular keep p z hp over given =
    lifted_signs ds 0 z triangular keep (direction_met ds (pos p) z (lifted_meet no_right_side ds values (pos p) z (omega (arith, ints)) triangular over)) given
