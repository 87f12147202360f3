-- The cost of numbers that meet the definitions, by the row of the cost; and its coefficients.
use Rattle.variable_elimination.proofs.Common.{◌≡◌, ℤ, pos, negsuc, neg_ℤ, ◌+ℤ◌, ◌-ℤ◌, ◌*ℤ◌, Bool, true, false, ◌&&◌, ◌||◌, List, [], ◌∷◌, map, length, refl, sym, ap, ap₂, ◌∙◌, subst, arith, if◌then◌else◌, Option, Some, None, ◌==◌, is_eq, Ordering, eqb-true, ints, *ℤ_cancel, *ℤ_pos, nonzero_of_pos, zero-*ℤ, *ℤ-zero, one-*ℤ, neg_ℤ-*ℤ, Row, Var, TOTAL_DISCOUNTED_COST, Form, ascends, variables_of, var_cmp, number_at, row_sum, alone, row_sum-alone, var_cmp_exact, Reduced, Definition, definitions_of, rows_of, defined, is_among, avoids, cost_variable, minus_one_at, placed, with_cost_variable, cost_variables, cost_form, other_entries, coefficient, AllAreCosts, IsCostReduced, IsCostOf, excess, AreMet, IsReducedBy, HaveNone}
use Rattle.std.specs.declared.cmp.Ordering.TheVariants.{Less, Equal as Alike, Greater}
use Rattle.variable_elimination.proofs.FormLaws.{Ascends}
use Rattle.variable_elimination.proofs.LeftLaws.{avoids-from_none}
use Rattle.variable_elimination.proofs.LiftLaws.{alike, neither, row_sum-avoids}
use Rattle.variable_elimination.proofs.LiftedLaws.{split}
use Rattle.variable_elimination.proofs.ReadyLaws.{others_ascend}
use Rattle.variable_elimination.proofs.ReductionLaws.{IsReduced-met}
use Rattle.variable_elimination.proofs.VariableLaws.{itself, turned}

-- ---- the variables of which the cost is the sum

-- 1 at each of them
abbrev plus_one_at : Var → Var × ℤ
plus_one_at v = (v, pos 1)

abbrev pub cost_entries : List (Option Var) → List (Var × ℤ)
cost_entries defs = map plus_one_at (cost_variables [] defs)

placed-costs : (v : Var) (vs : List Var) → v.kind ≡ TOTAL_DISCOUNTED_COST → AllAreCosts vs → AllAreCosts (placed v vs)
placed-costs v [] h k = (h, tt)
placed-costs v (w ∷ ws) h k = cases (var_cmp v w) (placed-costs v ws h k.1)
  where
    cases : (o : Ordering) → AllAreCosts (placed v ws) → AllAreCosts (elim o [ Less ↦ v ∷ w ∷ ws | Alike ↦ w ∷ ws | Greater ↦ w ∷ placed v ws ])
    cases Less later = (h, k)
    cases Alike later = k
    cases Greater later = (k.0, later)

same_kind : (v : Var) → (v.kind == TOTAL_DISCOUNTED_COST) ≡ true → v.kind ≡ TOTAL_DISCOUNTED_COST
same_kind v h = eqb-true v.kind TOTAL_DISCOUNTED_COST h

all-costs : (so_far : List Var) (defs : List (Option Var)) → AllAreCosts so_far → AllAreCosts (cost_variables so_far defs)
all-costs so_far [] h = h
all-costs so_far (None ∷ defs) h = all-costs so_far defs h
all-costs so_far (Some v ∷ defs) h = all-costs (with_cost_variable so_far (Some v)) defs (cases (v.kind == TOTAL_DISCOUNTED_COST) refl)
  where
    cases : (t : Bool) → (v.kind == TOTAL_DISCOUNTED_COST) ≡ t → AllAreCosts (if t then placed v so_far else so_far)
    cases true is = placed-costs v so_far (same_kind v is) h
    cases false is = h

-- which they are
swapped : (a b c : Bool) → (a || (b || c)) ≡ (b || (a || c))
swapped true true c = refl
swapped true false c = refl
swapped false true c = refl
swapped false false c = refl

twice : (a b : Bool) → (a || b) ≡ (a || (a || b))
twice true b = refl
twice false b = refl

placed-among : (v : Var) (vs : List Var) (w : Var) → is_among (placed v vs) w ≡ (is_eq (var_cmp w v) || is_among vs w)
placed-among v [] w = refl
placed-among v (u ∷ us) w = cases (var_cmp v u) refl (placed-among v us w)
  where
    cases : (o : Ordering) → var_cmp v u ≡ o → is_among (placed v us) w ≡ (is_eq (var_cmp w v) || is_among us w)
        → is_among (elim o [ Less ↦ v ∷ u ∷ us | Alike ↦ u ∷ us | Greater ↦ u ∷ placed v us ]) w ≡ (is_eq (var_cmp w v) || (is_eq (var_cmp w u) || is_among us w))
    cases Less is rest = refl
    cases Alike is rest =
        let same : v ≡ u = var_cmp_exact v u is in
        twice (is_eq (var_cmp w u)) (is_among us w) ∙ ap (λ x. is_eq (var_cmp w x) || (is_eq (var_cmp w u) || is_among us w)) (sym same)
    cases Greater is rest = ap (λ t. is_eq (var_cmp w u) || t) rest ∙ swapped (is_eq (var_cmp w u)) (is_eq (var_cmp w v)) (is_among us w)

abbrev is_cost : Var → Bool
is_cost w = w.kind == TOTAL_DISCOUNTED_COST

costs-among : (rows : List Row) (defs : List (Option Var)) (so_far : List Var) (w : Var) → length defs ≡ length rows → is_among (cost_variables so_far defs) w ≡ (is_among so_far w || (is_among (defined (definitions_of rows defs)) w && is_cost w))
costs-among [] [] so_far w same = or_false (is_among so_far w)
  where
    or_false : (a : Bool) → a ≡ (a || false)
    or_false true = refl
    or_false false = refl
costs-among [] (o ∷ defs) so_far w same = absurd (omega arith)
costs-among (row ∷ rows) [] so_far w same = absurd (omega arith)
costs-among (row ∷ rows) (None ∷ defs) so_far w same = costs-among rows defs so_far w (omega arith)
costs-among (row ∷ rows) (Some v ∷ defs) so_far w same =
    costs-among rows defs (with_cost_variable so_far (Some v)) w (omega arith) ∙ cases (is_cost v) refl (is_eq (var_cmp w v)) refl
  where
    later : Bool
    later = is_among (defined (definitions_of rows defs)) w

    first : (a b k : Bool) → k ≡ true → ((true || a) || (b && k)) ≡ (a || ((true || b) && k))
    first true b k h = refl
    first false b true h = refl
    first false b false h = absurd (cc h)

    kind_of : is_eq (var_cmp w v) ≡ true → is_cost w ≡ is_cost v
    kind_of is = ap is_cost (var_cmp_exact w v (alike (var_cmp w v) is))

    none_more : (a b k : Bool) → k ≡ false → (a || (b && k)) ≡ (a || ((true || b) && k))
    none_more a b true h = absurd (cc h)
    none_more a true false h = refl
    none_more a false false h = refl

    cases : (t : Bool) → is_cost v ≡ t → (e : Bool) → is_eq (var_cmp w v) ≡ e → (is_among (if t then placed v so_far else so_far) w || (later && is_cost w)) ≡ (is_among so_far w || ((e || later) && is_cost w))
    cases true is true same_one =
        ap (λ b. b || (later && is_cost w)) (placed-among v so_far w ∙ ap (λ b. b || is_among so_far w) same_one) ∙ first (is_among so_far w) later (is_cost w) (kind_of same_one ∙ is)
    cases true is false apart = ap (λ b. b || (later && is_cost w)) (placed-among v so_far w ∙ ap (λ b. b || is_among so_far w) apart)
    cases false is true same_one = none_more (is_among so_far w) later (is_cost w) (kind_of same_one ∙ is)
    cases false is false apart = refl

-- ---- coefficients

number-among : (vs : List Var) (w : Var) → number_at (map plus_one_at vs) w ≡ (if is_among vs w then pos 1 else pos 0)
number-among [] w = refl
number-among (v ∷ vs) w = cases (is_eq (var_cmp v w)) (is_eq (var_cmp w v)) (turned v w) (number-among vs w)
  where
    cases : (t u : Bool) → t ≡ u → number_at (map plus_one_at vs) w ≡ (if is_among vs w then pos 1 else pos 0) → (if t then pos 1 else number_at (map plus_one_at vs) w) ≡ (if (u || is_among vs w) then pos 1 else pos 0)
    cases true true is rest = refl
    cases true false is rest = absurd (cc is)
    cases false true is rest = absurd (cc is)
    cases false false is rest = rest

keys-plus : (vs : List Var) → variables_of (map plus_one_at vs) ≡ vs
keys-plus [] = refl
keys-plus (v ∷ vs) = ap {B = List Var} (λ ws. v ∷ ws) (keys-plus vs)

-- of 1 at a variable the cost is 1 where the cost is a sum with it
cost-alone : (rows : List Row) (defs : List (Option Var)) (w : Var) → length defs ≡ length rows → ascends var_cmp (cost_variables [] defs) ≡ true
    → row_sum (alone w) (cost_entries defs) ≡ (if (is_among (defined (definitions_of rows defs)) w && is_cost w) then pos 1 else pos 0)
cost-alone rows defs w same up =
    row_sum-alone w (cost_entries defs) (ap (ascends var_cmp) (keys-plus (cost_variables [] defs)) ∙ up) ∙ number-among (cost_variables [] defs) w ∙ ap (λ b. if b then pos 1 else pos 0) (costs-among rows defs [] w same)

pub cost-defined : (rows : List Row) (defs : List (Option Var)) (w : Var) → length defs ≡ length rows → ascends var_cmp (cost_variables [] defs) ≡ true → is_among (defined (definitions_of rows defs)) w ≡ true
    → row_sum (alone w) (cost_entries defs) ≡ coefficient true w
cost-defined rows defs w same up h = cost-alone rows defs w same up ∙ ap (λ (b : Bool). if (b && is_cost w) then pos 1 else pos 0) h

pub cost-other : (rows : List Row) (defs : List (Option Var)) (w : Var) → length defs ≡ length rows → ascends var_cmp (cost_variables [] defs) ≡ true → is_among (defined (definitions_of rows defs)) w ≡ false
    → row_sum (alone w) (cost_entries defs) ≡ pos 0
cost-other rows defs w same up h = cost-alone rows defs w same up ∙ ap (λ (b : Bool). if (b && is_cost w) then pos 1 else pos 0) h

-- ---- the row of the cost

minus-sum : (x : Var → ℤ) (vs : List Var) → row_sum x (map minus_one_at vs) ≡ neg_ℤ (row_sum x (map plus_one_at vs))
minus-sum x [] = refl
minus-sum x (v ∷ vs) = ap (λ z. (negsuc 0 *ℤ x v) +ℤ z) (minus-sum x vs) ∙ turned_round (x v) (row_sum x (map plus_one_at vs))
  where
    minus_one : (y : ℤ) → negsuc 0 *ℤ y ≡ neg_ℤ y
    minus_one y = neg_ℤ-*ℤ (pos 1) y ∙ ap neg_ℤ (one-*ℤ y)

    turned_round : (y s : ℤ) → (negsuc 0 *ℤ y) +ℤ neg_ℤ s ≡ neg_ℤ ((pos 1 *ℤ y) +ℤ s)
    turned_round y s = let a = minus_one y in let b = one-*ℤ y in omega (arith, ints)

-- a variable of the cost isn't the one that stands for the cost
costs-apart : (vs : List Var) → AllAreCosts vs → is_among vs cost_variable ≡ false
costs-apart [] h = refl
costs-apart (v ∷ vs) h = ap₂ (λ a b. a || b) (cases (is_eq (var_cmp cost_variable v)) refl) (costs-apart vs h.1)
  where
    cases : (t : Bool) → is_eq (var_cmp cost_variable v) ≡ t → t ≡ false
    cases true is =
        let same : cost_variable ≡ v = var_cmp_exact cost_variable v (alike (var_cmp cost_variable v) is) in
        let kind : 0 ≡ TOTAL_DISCOUNTED_COST = ap (λ (u : Var). u.kind) same ∙ h.0 in
        absurd (omega (arith, kind))
    cases false is = refl

-- the numbers x, but c at the variable that stands for the cost
abbrev with_cost : ℤ → (Var → ℤ) → Var → ℤ
with_cost c x w = if is_eq (var_cmp w cost_variable) then c else x w

one_apart : (w : Var) → is_among (cost_variable ∷ []) w ≡ false → is_eq (var_cmp w cost_variable) ≡ false
one_apart w h = (neither (is_eq (var_cmp w cost_variable)) false h).0

elsewhere : (c : ℤ) (x : Var → ℤ) (es : List (Var × ℤ)) → avoids (cost_variable ∷ []) es ≡ true → row_sum (with_cost c x) es ≡ row_sum x es
elsewhere c x es h = row_sum-avoids (with_cost c x) x (cost_variable ∷ []) es h (λ w k. ap (λ t. if t then c else x w) (one_apart w k))

row-elsewhere : (c : ℤ) (x : Var → ℤ) (row : Row) → number_at row.entries.items cost_variable ≡ pos 0 → row_sum (with_cost c x) row.entries.items ≡ row_sum x row.entries.items
row-elsewhere c x row none = elsewhere c x row.entries.items (avoids-from_none (cost_variable ∷ []) row.entries.items row.nonzero (λ w h. ap (number_at row.entries.items) (there w h) ∙ none))
  where
    there : (w : Var) → is_among (cost_variable ∷ []) w ≡ true → w ≡ cost_variable
    there w h = cases (is_eq (var_cmp w cost_variable)) refl h
      where
        cases : (t : Bool) → is_eq (var_cmp w cost_variable) ≡ t → (t || false) ≡ true → w ≡ cost_variable
        cases true is k = var_cmp_exact w cost_variable (alike (var_cmp w cost_variable) is)
        cases false is k = absurd (cc k)

met-elsewhere : (ds : List Definition) (c q : ℤ) (x : Var → ℤ) → HaveNone cost_variable (rows_of ds) → AreMet ds q x → AreMet ds q (with_cost c x)
met-elsewhere [] c q x none met = tt
met-elsewhere (d ∷ ds) c q x none met = (ap (λ z. z -ℤ (d.row.rhs *ℤ q)) (row-elsewhere c x d.row none.0) ∙ met.0, met-elsewhere ds c q x none.1 met.1)

costs-elsewhere : (c : ℤ) (x : Var → ℤ) (vs : List Var) → AllAreCosts vs → row_sum (with_cost c x) (map plus_one_at vs) ≡ row_sum x (map plus_one_at vs)
costs-elsewhere c x [] h = refl
costs-elsewhere c x (v ∷ vs) h =
    let apart : is_eq (var_cmp v cost_variable) ≡ false = turned v cost_variable ∙ (neither (is_eq (var_cmp cost_variable v)) (is_among vs cost_variable) (costs-apart (v ∷ vs) h)).0 in
    ap₂ (λ a b. (pos 1 *ℤ a) +ℤ b) (ap (λ t. if t then c else x v) apart) (costs-elsewhere c x vs h.1)

-- the other entries don't depend on the cost
others-elsewhere : (c : ℤ) (x : Var → ℤ) (es : List (Var × ℤ)) → row_sum (with_cost c x) (other_entries var_cmp cost_variable es) ≡ row_sum x (other_entries var_cmp cost_variable es)
others-elsewhere c x [] = refl
others-elsewhere c x (e ∷ es) = cases (is_eq (var_cmp e.0 cost_variable)) refl (others-elsewhere c x es)
  where
    cases : (t : Bool) → is_eq (var_cmp e.0 cost_variable) ≡ t → row_sum (with_cost c x) (other_entries var_cmp cost_variable es) ≡ row_sum x (other_entries var_cmp cost_variable es)
        → row_sum (with_cost c x) (if t then other_entries var_cmp cost_variable es else (e ∷ other_entries var_cmp cost_variable es)) ≡ row_sum x (if t then other_entries var_cmp cost_variable es else (e ∷ other_entries var_cmp cost_variable es))
    cases true is rest = rest
    cases false is rest = ap₂ (λ a b. (e.1 *ℤ a) +ℤ b) (ap (λ t. if t then c else x e.0) is) rest

-- of numbers that meet the definitions, own times the cost and the entries of the row of the cost are its right side
pub cost-met : (ds : List Definition) (defs : List (Option Var)) (form : Form) (made : Reduced) (q : ℤ) (x : Var → ℤ) → HaveNone cost_variable (rows_of ds) → IsCostReduced (rows_of ds) defs form → IsCostOf form made → AreMet ds q x
    → (made.cost_own *ℤ row_sum x (cost_entries defs)) +ℤ row_sum x made.cost.items ≡ made.cost_rhs *ℤ q
cost-met ds defs form made q x none reduced of met =
    let c : ℤ = row_sum x (cost_entries defs) in
    let z : Var → ℤ = with_cost c x in
    let there = met-elsewhere ds c q x none met in
    let by : IsReducedBy (rows_of ds) reduced.cost_row.first reduced.row = reduced.cost_row.reduced in
    let down : ℤ = by.scale.bottom *ℤ by.reduced.over in
    let first : excess reduced.cost_row.first q z ≡ pos 0 = ap (λ (f : Form). row_sum z f.entries -ℤ (f.right *ℤ q)) reduced.cost_row.form ∙ first_nothing in
    let scaled : excess reduced.row q z *ℤ down ≡ pos 0 = IsReduced-met ds reduced.cost_row.first by.scale reduced.row q z there by.reduced ∙ ap (λ y. (by.scale.top *ℤ by.reduced.over) *ℤ y) first ∙ *ℤ-zero (by.scale.top *ℤ by.reduced.over) in
    let nothing : excess reduced.row q z ≡ pos 0 =
    *ℤ_cancel (excess reduced.row q z) (pos 0) down (nonzero_of_pos down (*ℤ_pos by.scale.bottom by.reduced.over by.reduced.bottom_positive by.reduced.over_positive)) (scaled ∙ sym (zero-*ℤ down)) in
    let es = reduced.row.entries.items in
    let parts : row_sum z es ≡ (number_at es cost_variable *ℤ c) +ℤ row_sum x (other_entries var_cmp cost_variable es) =
    split z cost_variable es
    ∙ ap₂ (λ a b. (a *ℤ z cost_variable) +ℤ b) (row_sum-alone cost_variable es reduced.row.ascending) (others-elsewhere c x es)
    ∙ ap (λ o. (number_at es cost_variable *ℤ (if is_eq o then c else x cost_variable)) +ℤ row_sum x (other_entries var_cmp cost_variable es)) (itself cost_variable) in
    let own : made.cost_own ≡ number_at es cost_variable = of.own ∙ ap (λ (f : Form). number_at f.entries cost_variable) (sym reduced.is) in
    let entries : made.cost.items ≡ other_entries var_cmp cost_variable es = of.cost ∙ ap (λ (f : Form). other_entries var_cmp cost_variable f.entries) (sym reduced.is) in
    let right : made.cost_rhs ≡ reduced.row.rhs = of.right_side ∙ ap (λ (f : Form). f.right) (sym reduced.is) in
    ap₂ (λ a b. (a *ℤ c) +ℤ row_sum x b) own entries ∙ sym parts ∙ difference_is (row_sum z es) (reduced.row.rhs *ℤ q) nothing ∙ ap (λ r. r *ℤ q) (sym right)
  where
    difference_is : (a b : ℤ) → a -ℤ b ≡ pos 0 → a ≡ b
    difference_is a b h = omega (arith, ints)

    costs : AllAreCosts (cost_variables [] defs)
    costs = all-costs [] defs tt

    first_nothing : row_sum (with_cost (row_sum x (cost_entries defs)) x) (cost_form defs).entries -ℤ (pos 0 *ℤ q) ≡ pos 0
    first_nothing =
        let s : ℤ = row_sum x (cost_entries defs) in
        let rest : row_sum (with_cost s x) (map minus_one_at (cost_variables [] defs)) ≡ neg_ℤ s = minus-sum (with_cost s x) (cost_variables [] defs) ∙ ap neg_ℤ (costs-elsewhere s x (cost_variables [] defs) costs) in
        let own : with_cost s x cost_variable ≡ s = ap (λ o. if is_eq o then s else x cost_variable) (itself cost_variable) in
        ap₂ (λ a b. ((pos 1 *ℤ a) +ℤ b) -ℤ (pos 0 *ℤ q)) own rest ∙ cancels s q
      where
        cancels : (s q : ℤ) → ((pos 1 *ℤ s) +ℤ neg_ℤ s) -ℤ (pos 0 *ℤ q) ≡ pos 0
        cancels s q = let a = one-*ℤ s in let b = zero-*ℤ q in omega (arith, ints)

-- the numbers of the row of the cost, by variable
pub price-alone : (form : Form) (defs : List (Option Var)) (definitions : List Row) (made : Reduced) (v : Var) → IsCostReduced definitions defs form → IsCostOf form made → row_sum (alone v) made.cost.items ≡ number_at made.cost.items v
price-alone form defs definitions made v reduced of =
    let entries : made.cost.items ≡ other_entries var_cmp cost_variable reduced.row.entries.items = of.cost ∙ ap (λ (f : Form). other_entries var_cmp cost_variable f.entries) (sym reduced.is) in
    row_sum-alone v made.cost.items (subst (λ (es : List (Var × ℤ)). Ascends es) (sym entries) (others_ascend cost_variable reduced.row.entries.items reduced.row.ascending))
