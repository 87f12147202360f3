-- What is looked at of rows depends on what they say alone, so rows of the same instances pass alike.
use Rattle.check_command.proofs.Common.{◌≡◌, ℕ, ℤ, pos, Bool, true, List, [], ◌∷◌, ◌++◌, map, filter, refl, ap, ap₂, sym, ◌∙◌, int_lt, flat_map, Rational, minus, order_of, whole, Data, Row, RowName, Var, RowContents, contents_of, var_cmp, value_in, AreRowsOf, Condition, formed_at, cost_entries, cost_value, total, total_formed, bound_value, column_condition, is_signed, is_within, multiplier_condition, right_sides, absolute, direction_conditions, plan_conditions, sign_condition, column_off, cost_not_negative, row_missed, sum_not_positive, wrongly_signed}
use Rattle.std.specs.Ordering.{is_eq}
use Rattle.exact_num.specs.Formed.{difference_formed}
use Rattle.row_core.specs.declared.Sense.{Sense}
use Rattle.row_core.specs.declared.place.Place.TheVariants.{Check, Column, SumBound, SumCost}
use Rattle.row_core.specs.Columns.{column_of}
use Rattle.row_core.specs.Evaluated.{evaluated, evaluated_formed}
use Rattle.row_core.specs.Kinds.{kind_is_free}
use Rattle.row_core.specs.Statements.{stands}

-- ---- rows of the same instances say the same

-- what a row of these parts says
abbrev saying : RowName → Sense → List (Var × ℤ) → ℤ → RowContents
saying n s e a = record { name = n; sense = s; entries = e; rhs = a }

same-four : (n m : RowName) (s t : Sense) (e f : List (Var × ℤ)) (a b : ℤ) → n ≡ m → s ≡ t → e ≡ f → a ≡ b
    → saying n s e a ≡ saying m t f b
same-four n m s t e f a b names senses entries sides =
    ap₂ (λ (x : RowName) (y : Sense). saying x y e a) names senses ∙ ap₂ (λ (x : List (Var × ℤ)) (y : ℤ). saying m t x y) entries sides

pub same-contents : (places : ℕ) (d : Data) (names : List RowName) (rows others : List Row) → AreRowsOf places d names rows → AreRowsOf places d names others → map contents_of rows ≡ map contents_of others
same-contents places d [] [] [] are so = refl
same-contents places d [] [] (o ∷ os) are so = absurd so
same-contents places d [] (r ∷ rs) others are so = absurd are
same-contents places d (name ∷ names) [] others are so = absurd are
same-contents places d (name ∷ names) (r ∷ rs) [] are so = absurd so
same-contents places d (name ∷ names) (r ∷ rs) (o ∷ os) are so =
    let one = are.0.written in
    let two = so.0.written in
    ap₂ (λ (c : RowContents) (cs : List RowContents). c ∷ cs)
    (same-four r.name o.name r.sense o.sense r.entries.items o.entries.items r.rhs o.rhs (one.named ∙ sym two.named) (one.sense ∙ sym two.sense) (one.entries ∙ sym two.entries) (one.right_side ∙ sym two.right_side))
    (same-contents places d names rs os are.1 so.1)

-- ---- through what they say

through : {A : Type 0} (g : RowContents → A) (rows : List Row) → map (λ row. g (contents_of row)) rows ≡ map g (map contents_of rows)
through g [] = refl
through g (r ∷ rs) = ap (λ xs. g (contents_of r) ∷ xs) (through g rs)

all-through : {A : Type 0} (g : RowContents → List A) (rows : List Row) → flat_map (λ row. g (contents_of row)) rows ≡ flat_map g (map contents_of rows)
all-through g [] = refl
all-through g (r ∷ rs) = ap (λ xs. g (contents_of r) ++ xs) (all-through g rs)

each-same : {A B : Type 0} (f g : A → B) (xs : List A) → ((x : A) → f x ≡ g x) → map f xs ≡ map g xs
each-same f g [] same = refl
each-same f g (x ∷ xs) same = ap₂ (λ y ys. y ∷ ys) (same x) (each-same f g xs same)

-- ---- the conditions of a plan and of a direction

abbrev missed : (Var → Rational) → ℤ → RowContents → Condition
missed value right c = record {
  seen = formed_at (Check c.name) (evaluated_formed value c.entries right);
  holds = stands c.sense (evaluated value c.entries right).top (pos 0);
  reason = row_missed c.name (absolute (evaluated value c.entries right));
  amount = [];
}

-- that on the cost: of a plan any passes, of a direction what is below 0
abbrev cost_at : (ℤ → Bool) → (Var → ℤ) → List Var → (Var → Rational) → Condition
cost_at passes cost vars value = record {
  seen = formed_at SumCost (total_formed value (cost_entries cost vars));
  holds = passes (cost_value cost vars value).top;
  reason = cost_not_negative;
  amount = [];
}

abbrev any_cost : ℤ → Bool
any_cost cost = true

abbrev falling_cost : ℤ → Bool
falling_cost cost = int_lt cost (pos 0)

-- the condition on the column of a variable, and that on the sum over right sides
abbrev column_at : (Var → ℤ) → (RowName → Rational) → Var → List (RowName × ℤ) → Condition
column_at cost value v column = record {
  seen = formed_at (Column v) (total_formed value column);
  holds = is_within (kind_is_free v.kind) (order_of (total value column) (whole (cost v)));
  reason = column_off v (absolute (minus (total value column) (whole (cost v))));
  amount = formed_at (Column v) (difference_formed (total value column) (whole (cost v)));
}

abbrev sum_by : (ℤ → Bool) → (RowName → Rational) → List (RowName × ℤ) → Condition
sum_by passes value sides = record {
  seen = formed_at SumBound (total_formed value sides);
  holds = passes (total value sides).top;
  reason = sum_not_positive;
  amount = [];
}

-- the conditions of multipliers, of which the sum must pass this test
abbrev pub conditions_by : (ℤ → Bool) → (Var → ℤ) → List Row → List Var → (RowName → Rational) → List Condition
conditions_by passes cost rows vars value =
    map (multiplier_condition value) rows ++ (map (column_condition cost rows value) vars ++ sum_by passes value (right_sides rows) ∷ [])

module _ (rows others : List Row) (same : map contents_of rows ≡ map contents_of others) where
  pub same-plan : (cost : Var → ℤ) (vars : List Var) (plan : List (Var × Rational)) → plan_conditions cost rows vars plan ≡ plan_conditions cost others vars plan
  same-plan cost vars plan =
      let value = value_in var_cmp plan in
      let one : RowContents → Condition = λ c. missed value c.rhs c in
      ap (λ (cs : List Condition). cs ++ (map (sign_condition value) vars ++ cost_at any_cost cost vars value ∷ []))
      (through one rows ∙ ap (map one) same ∙ sym (through one others))

  pub same-direction : (cost : Var → ℤ) (vars : List Var) (direction : List (Var × Rational)) → direction_conditions cost rows vars direction ≡ direction_conditions cost others vars direction
  same-direction cost vars direction =
      let value = value_in var_cmp direction in
      let one : RowContents → Condition = λ c. missed value (pos 0) c in
      ap (λ (cs : List Condition). cs ++ (map (sign_condition value) vars ++ cost_at falling_cost cost vars value ∷ []))
      (through one rows ∙ ap (map one) same ∙ sym (through one others))

  -- ---- those of multipliers

  same-columns : (v : Var) → column_of rows v ≡ column_of others v
  same-columns v =
      let one : RowContents → List (RowName × ℤ) = λ c. map (λ e. (c.name, e.1)) (filter (λ e. is_eq (var_cmp e.0 v)) c.entries) in
      all-through one rows ∙ ap (flat_map one) same ∙ sym (all-through one others)

  same-sides : right_sides rows ≡ right_sides others
  same-sides =
      let one : RowContents → RowName × ℤ = λ c. (c.name, c.rhs) in
      through one rows ∙ ap (map one) same ∙ sym (through one others)

  pub same-bound : (value : RowName → Rational) → bound_value rows value ≡ bound_value others value
  same-bound value = ap (total value) same-sides

  pub same-multipliers : (passes : ℤ → Bool) (cost : Var → ℤ) (vars : List Var) (value : RowName → Rational) → conditions_by passes cost rows vars value ≡ conditions_by passes cost others vars value
  same-multipliers passes cost vars value =
      let signed : RowContents → Condition = λ c. record { seen = []; holds = is_signed c.sense (value c.name).top; reason = wrongly_signed c.name; amount = [] } in
      ap₂ (λ (xs ys : List Condition). xs ++ ys) (through signed rows ∙ ap (map signed) same ∙ sym (through signed others))
      (ap₂ (λ (xs : List Condition) (c : Condition). xs ++ c ∷ [])
      (each-same (column_condition cost rows value) (column_condition cost others value) vars (λ v. ap (column_at cost value v) (same-columns v)))
      (ap (sum_by passes value) same-sides))
