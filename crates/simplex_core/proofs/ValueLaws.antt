-- The values of columns and variables, one after another.
use Rattle.simplex_core.proofs.Common.{◌≡◌, ◌≢◌, ℕ, zero, suc, ◌+◌, ◌<◌, ◌≤◌, ℤ, pos, Bool, true, false, Option, Some, None, List, [], ◌∷◌, ◌++◌, length, get_or, map, drop, arith, refl, sym, ap, ap₂, ◌∙◌, subst, inl, inr, append-nil, if◌then◌else◌, cases_lt, ints, nat_tests, append_assoc, at_drop_all, drop_more, get_or_past, map-append, all_fit, Rational, lowest, minus, whole, first_wide, value_of, Frac, all_fit-nil, first_wide-fits, first_wide-nil, first_wide-stops, Var, Place, keys_of, IsBasic, IsShaped, as_most, width_of, Line, entry_of, Inequality, inequality_of, is_split, Tableau, basic_of, line_of, rows_of, by_variable, by_variable_steps, multipliers_from, row_of_basic, share_of, slope_of, same_or_not, column_lift, value_at_column, variable_formed, variable_value}
use Rattle.std.specs.Prelude.{◌==◌, ◌⊎◌, ◌<ℤ◌, IfSome}
use Rattle.exact_num.specs.Formed.{difference_formed}
use Rattle.row_core.specs.declared.Row.{Row}
use Rattle.row_core.specs.Plans.{valued}
use Rattle.row_core.proofs.WritingSteps.{drop_at}
use Rattle.written_method.proofs.EndValueLaws.{row_of-some}
use Rattle.int_tableau.specs.Starts.{after_columns}

-- what a read after the last variable gives
abbrev pub no_variable : Var
no_variable = record { kind = 0; index = record { region = 0; other = 0; slice = 0; tech = 0; fuel = 0; emission = 0; mode = 0; year = 0 } }

-- what is made so far, one more, and the rest
append_one : {X : Type 0} (now more : List X) (x : X) (rest : List X) → more ≡ now ++ x ∷ [] → now ++ x ∷ rest ≡ more ++ rest
append_one now more x rest h = sym (append_assoc now (x ∷ []) rest) ∙ ap (λ zs. zs ++ rest) (sym h)

-- ---- the row in which a column is basic

pub row_known : (t : Tableau) (c r : ℕ) → row_of_basic c 0 t.basics ≡ Some r → (r < rows_of t) × (basic_of t r ≡ c)
row_known t c r h =
    let w = row_of-some c 0 t.basics r h in
    let at : w.0 ≡ r = omega (arith, w.2) in (
      subst (λ i. i < rows_of t) at w.1,
      subst (λ i. get_or t.basics i 0 ≡ c) at w.3,
    )

eq_yes : (a b : ℕ) → a ≡ b → (a == b) ≡ true
eq_yes a b h = grind (arith, nat_tests)

eq_no : (a b : ℕ) → a ≢ b → (a == b) ≡ false
eq_no a b h = grind (arith, nat_tests)

-- ---- one variable

by_variable-cons : (f : ℕ → Rational) (c : ℕ) (v : Var) (vs : List Var) → by_variable f c (v ∷ vs) ≡ (v, variable_value f c v) ∷ by_variable f (after_columns (is_split v) c) vs
by_variable-cons f c v vs = cases (is_split v)
  where
    cases : (s : Bool) → (if s then (v, minus (f c) (f (suc c))) ∷ by_variable f (suc (suc c)) vs else (v, f c) ∷ by_variable f (suc c) vs) ≡ (v, if s then minus (f c) (f (suc c)) else f c) ∷ by_variable f (after_columns s c) vs
    cases true = refl
    cases false = refl

pub formed-none : (f : ℕ → Rational) (c : ℕ) (v : Var) → is_split v ≡ false → all_fit (variable_formed f c v) ≡ true
formed-none f c v h = ap (λ s. all_fit (if s then difference_formed (f c) (f (suc c)) else [])) h ∙ all_fit-nil

steps-cons-fits : (place : Var → Place) (f : ℕ → Rational) (c : ℕ) (v : Var) (vs : List Var) → all_fit (variable_formed f c v) ≡ true
    → first_wide (by_variable_steps place f c (v ∷ vs)) ≡ first_wide (by_variable_steps place f (after_columns (is_split v) c) vs)
steps-cons-fits place f c v vs h = cases (is_split v) h
  where
    cases : (s : Bool) → all_fit (if s then difference_formed (f c) (f (suc c)) else []) ≡ true
        → first_wide (if s then record { place = place v; formed = difference_formed (f c) (f (suc c)) } ∷ by_variable_steps place f (suc (suc c)) vs else by_variable_steps place f (suc c) vs) ≡ first_wide (by_variable_steps place f (after_columns s c) vs)
    cases true k = first_wide-fits (record { place = place v; formed = difference_formed (f c) (f (suc c)) }) (by_variable_steps place f (suc (suc c)) vs) k
    cases false k = refl

steps-cons-wide : (place : Var → Place) (f : ℕ → Rational) (c : ℕ) (v : Var) (vs : List Var) → all_fit (variable_formed f c v) ≡ false → first_wide (by_variable_steps place f c (v ∷ vs)) ≡ Some (place v)
steps-cons-wide place f c v vs h = cases (is_split v) h
  where
    cases : (s : Bool) → all_fit (if s then difference_formed (f c) (f (suc c)) else []) ≡ false
        → first_wide (if s then record { place = place v; formed = difference_formed (f c) (f (suc c)) } ∷ by_variable_steps place f (suc (suc c)) vs else by_variable_steps place f (suc c) vs) ≡ Some (place v)
    cases true k = first_wide-stops (record { place = place v; formed = difference_formed (f c) (f (suc c)) }) (by_variable_steps place f (suc (suc c)) vs) k
    cases false k = absurd (cc (sym k ∙ all_fit-nil))

-- ---- variable by variable

-- what is made before the variables that are left
pub record IsLifted (place : Var → Place) (f : ℕ → Rational) (vs : List Var) (c i : ℕ) (now : List (Var × Frac)) : Type 0 where
  pub values : by_variable f 0 vs ≡ map valued now ++ by_variable f c (drop i vs)
  pub steps : first_wide (by_variable_steps place f 0 vs) ≡ first_wide (by_variable_steps place f c (drop i vs))
  pub width : width_of vs ≡ c + width_of (drop i vs)
  pub keys : keys_of now ++ drop i vs ≡ vs

keys-push : (now : List (Var × Frac)) (v : Var) (x : Frac) → keys_of (now ++ (v, x) ∷ []) ≡ keys_of now ++ v ∷ []
keys-push [] v x = refl
keys-push (e ∷ now) v x = ap {B = List Var} (λ ws. e.0 ∷ ws) (keys-push now v x)

width-cons : (v : Var) (vs : List Var) (c : ℕ) → c + width_of (v ∷ vs) ≡ after_columns (is_split v) c + width_of vs
width-cons v vs c = cases (is_split v)
  where
    cases : (s : Bool) → c + (if s then suc (suc (width_of vs)) else suc (width_of vs)) ≡ after_columns s c + width_of vs
    cases true = omega arith
    cases false = omega arith

pub IsLifted-next : (place : Var → Place) (f : ℕ → Rational) (vs : List Var) (c i next : ℕ) (v : Var) (x : Frac) (now more : List (Var × Frac)) → IsLifted place f vs c i now → i < length vs → v ≡ get_or vs i v
    → all_fit (variable_formed f c v) ≡ true → value_of x ≡ variable_value f c v → more ≡ now ++ (v, x) ∷ [] → next ≡ after_columns (is_split v) c → IsLifted place f vs next (i + 1) more
IsLifted-next place f vs c i next v x now more w h e fits value pushed n =
    let rest : List Var = drop (i + 1) vs in
    let here : drop i vs ≡ v ∷ rest = drop_at vs i v h e in
    record {
      values =
          w.values
          ∙ ap (λ ws. map valued now ++ by_variable f c ws) here
          ∙ ap (λ es. map valued now ++ es) (by_variable-cons f c v rest ∙ ap (λ y. (v, y) ∷ by_variable f (after_columns (is_split v) c) rest) (sym value))
          ∙ append_one (map valued now) (map valued more) (v, value_of x) (by_variable f (after_columns (is_split v) c) rest) (ap (λ (es : List (Var × Frac)). map valued es) pushed ∙ map-append valued now ((v, x) ∷ []))
          ∙ ap (λ k. map valued more ++ by_variable f k rest) (sym n);
      steps =
          w.steps
          ∙ ap (λ ws. first_wide (by_variable_steps place f c ws)) here
          ∙ steps-cons-fits place f c v rest fits
          ∙ ap (λ k. first_wide (by_variable_steps place f k rest)) (sym n);
      width = w.width ∙ ap (λ ws. c + width_of ws) here ∙ width-cons v rest c ∙ ap (λ k. k + width_of rest) (sym n);
      keys =
          sym (append_one (keys_of now) (keys_of more) v rest (ap (λ (es : List (Var × Frac)). keys_of es) pushed ∙ keys-push now v x))
          ∙ ap (λ ws. keys_of now ++ ws) (sym here)
          ∙ w.keys;
    }

pub IsLifted-stop : (place : Var → Place) (f : ℕ → Rational) (vs : List Var) (c i : ℕ) (v : Var) (now : List (Var × Frac)) → IsLifted place f vs c i now → i < length vs → v ≡ get_or vs i v → all_fit (variable_formed f c v) ≡ false
    → first_wide (by_variable_steps place f 0 vs) ≡ Some (place v)
IsLifted-stop place f vs c i v now w h e wide =
    w.steps ∙ ap (λ ws. first_wide (by_variable_steps place f c ws)) (drop_at vs i v h e) ∙ steps-cons-wide place f c v (drop (i + 1) vs) wide

-- the columns of the next variable can be counted
pub IsLifted-columns : (place : Var → Place) (f : ℕ → Rational) (vs : List Var) (c i : ℕ) (now : List (Var × Frac)) → IsLifted place f vs c i now → i < length vs → c + 1 ≤ width_of vs
IsLifted-columns place f vs c i now w h =
    let v : Var = get_or vs i no_variable in
    let all : width_of vs ≡ after_columns (is_split v) c + width_of (drop (i + 1) vs) = w.width ∙ ap (λ ws. c + width_of ws) (drop_more vs i no_variable h) ∙ width-cons v (drop (i + 1) vs) c in
    omega (arith, all, beyond (is_split v) c)
  where
    beyond : (s : Bool) (c : ℕ) → c + 1 ≤ after_columns s c
    beyond true c = omega arith
    beyond false c = omega arith

-- ---- the same numbers of columns give the same values

pub by_variable-same : (f g : ℕ → Rational) (c : ℕ) (vs : List Var) → ((d : ℕ) → f d ≡ g d) → by_variable f c vs ≡ by_variable g c vs
by_variable-same f g c [] h = refl
by_variable-same f g c (v ∷ vs) h = cases (is_split v) (by_variable-same f g (suc (suc c)) vs h) (by_variable-same f g (suc c) vs h)
  where
    cases : (s : Bool) → by_variable f (suc (suc c)) vs ≡ by_variable g (suc (suc c)) vs → by_variable f (suc c) vs ≡ by_variable g (suc c) vs
        → (if s then (v, minus (f c) (f (suc c))) ∷ by_variable f (suc (suc c)) vs else (v, f c) ∷ by_variable f (suc c) vs) ≡ (if s then (v, minus (g c) (g (suc c))) ∷ by_variable g (suc (suc c)) vs else (v, g c) ∷ by_variable g (suc c) vs)
    cases true two one = ap₂ {C = List (Var × Rational)} (λ x es. (v, x) ∷ es) (ap₂ minus (h c) (h (suc c))) two
    cases false two one = ap₂ {C = List (Var × Rational)} (λ x es. (v, x) ∷ es) (h c) one

pub steps-same : (place : Var → Place) (f g : ℕ → Rational) (c : ℕ) (vs : List Var) → ((d : ℕ) → f d ≡ g d) → by_variable_steps place f c vs ≡ by_variable_steps place g c vs
steps-same place f g c [] h = refl
steps-same place f g c (v ∷ vs) h = cases (is_split v) (steps-same place f g (suc (suc c)) vs h) (steps-same place f g (suc c) vs h)
  where
    cases : (s : Bool) → by_variable_steps place f (suc (suc c)) vs ≡ by_variable_steps place g (suc (suc c)) vs → by_variable_steps place f (suc c) vs ≡ by_variable_steps place g (suc c) vs
        → (if s then record { place = place v; formed = difference_formed (f c) (f (suc c)) } ∷ by_variable_steps place f (suc (suc c)) vs else by_variable_steps place f (suc c) vs)
        ≡ (if s then record { place = place v; formed = difference_formed (g c) (g (suc c)) } ∷ by_variable_steps place g (suc (suc c)) vs else by_variable_steps place g (suc c) vs)
    cases true two one = ap₂ (λ ns es. record { place = place v; formed = ns } ∷ es) (ap₂ difference_formed (h c) (h (suc c))) two
    cases false two one = one

-- ---- multipliers

pub multipliers-step : (slack : ℕ) (line : Line) (d : ℤ) (rows : List Row) (i : ℕ) (row : Row) (x : Frac) (now more : List Frac) → i < length rows → row ≡ get_or rows i row → value_of x ≡ lowest (as_most row.sense (entry_of line (slack + i))) d → more ≡ now ++ x ∷ []
    → map value_of now ++ multipliers_from (slack + i) line d (map inequality_of (drop i rows)) ≡ map value_of more ++ multipliers_from (slack + (i + 1)) line d (map inequality_of (drop (i + 1) rows))
multipliers-step slack line d rows i row x now more h e value pushed =
    let rest : List Inequality = map inequality_of (drop (i + 1) rows) in
    ap (λ rs. map value_of now ++ multipliers_from (slack + i) line d (map inequality_of rs)) (drop_at rows i row h e)
    ∙ ap (λ y. map value_of now ++ y ∷ multipliers_from (suc (slack + i)) line d rest) (sym value)
    ∙ append_one (map value_of now) (map value_of more) (value_of x) (multipliers_from (suc (slack + i)) line d rest) (ap (λ (es : List Frac). map value_of es) pushed ∙ map-append value_of now (x ∷ []))
    ∙ ap (λ k. map value_of more ++ multipliers_from k line d rest) next
  where
    next : suc (slack + i) ≡ slack + (i + 1)
    next = omega arith

-- ---- the ends

pub IsLifted-end : (place : Var → Place) (f : ℕ → Rational) (vs : List Var) (c i : ℕ) (now : List (Var × Frac)) → IsLifted place f vs c i now → length vs ≤ i
    → (map valued now ≡ by_variable f 0 vs) × (first_wide (by_variable_steps place f 0 vs) ≡ None) × (keys_of now ≡ vs)
IsLifted-end place f vs c i now w h = (
  sym (w.values ∙ at_drop_all (λ ws. map valued now ++ by_variable f c ws) vs i h ∙ append-nil (map valued now)),
  w.steps ∙ at_drop_all (λ ws. first_wide (by_variable_steps place f c ws)) vs i h ∙ first_wide-nil,
  sym (at_drop_all (λ ws. keys_of now ++ ws) vs i h ∙ append-nil (keys_of now)) ∙ w.keys,
)

-- the column after those of a variable, as the code counts
pub after_columns-is : (s : Bool) (c : ℕ) → (if s then c + 2 else c + 1) ≡ after_columns s c
after_columns-is true c = omega arith
after_columns-is false c = omega arith

-- ---- one more column

push-before : (now : List Frac) (x : Frac) (k : ℕ) → k < length now → value_at_column (now ++ x ∷ []) k ≡ value_at_column now k
push-before [] x k h = absurd (omega arith)
push-before (e ∷ now) x zero h = refl
push-before (e ∷ now) x (suc k) h = push-before now x k (omega arith)

push-last : (now : List Frac) (x : Frac) → value_at_column (now ++ x ∷ []) (length now) ≡ value_of x
push-last [] x = refl
push-last (e ∷ now) x = push-last now x

pub columns-push : (g : ℕ → Rational) (n : ℕ) (now more : List Frac) (x : Frac) → length now ≡ n → more ≡ now ++ x ∷ [] → ((k : ℕ) → k < n → value_at_column now k ≡ g k) → value_of x ≡ g n → (k : ℕ) → k < n + 1 → value_at_column more k ≡ g k
columns-push g n now more x count p h e k l = ap (λ (es : List Frac). value_at_column es k) p ∙ cases (same_or_not k n)
  where
    cases : ((k ≡ n) ⊎ (k ≢ n)) → value_at_column (now ++ x ∷ []) k ≡ g k
    cases (inl q) = ap (value_at_column (now ++ x ∷ [])) (q ∙ sym count) ∙ push-last now x ∙ e ∙ ap g (sym q)
    cases (inr m) = push-before now x k (omega arith) ∙ h k (omega arith)

past-last : (now : List Frac) (k : ℕ) → length now ≤ k → value_at_column now k ≡ whole (pos 0)
past-last [] k h = refl
past-last (e ∷ now) zero h = absurd (omega arith)
past-last (e ∷ now) (suc k) h = past-last now k (omega arith)

-- after the last column there is nothing
lift-past : (t : Tableau) (rows : List (Option ℕ)) (growing : Option ℕ) (c : ℕ) → length rows ≡ t.columns → get_or rows c None ≡ row_of_basic c 0 t.basics → IfSome growing (λ e. e < t.columns) → t.columns ≤ c → column_lift t growing c ≡ whole (pos 0)
lift-past t rows growing c count known within h = cases growing within
  where
    none : row_of_basic c 0 t.basics ≡ None
    none = sym known ∙ get_or_past rows c None (omega arith)

    cases : (o : Option ℕ) → IfSome o (λ e. e < t.columns) → column_lift t o c ≡ whole (pos 0)
    cases None w = ap (λ o. elim o as (λ _. Rational) [ None ↦ whole (pos 0) | Some r ↦ share_of (line_of t r) c ]) none
    cases (Some e) w =
        ap (λ b. if b then whole (pos 1) else (elim (row_of_basic c 0 t.basics) as (λ _. Rational) [ None ↦ whole (pos 0) | Some r ↦ slope_of (line_of t r) e c ])) (eq_no c e (λ q. omega arith))
        ∙ ap (λ o. elim o as (λ _. Rational) [ None ↦ whole (pos 0) | Some r ↦ slope_of (line_of t r) e c ]) none

-- all columns
pub columns-all : (t : Tableau) (rows : List (Option ℕ)) (growing : Option ℕ) (values : List Frac) (n : ℕ) → length values ≡ n → t.columns ≤ n → ((k : ℕ) → k < n → value_at_column values k ≡ column_lift t growing k)
    → length rows ≡ t.columns → ((k : ℕ) → get_or rows k None ≡ row_of_basic k 0 t.basics) → IfSome growing (λ e. e < t.columns) → (k : ℕ) → value_at_column values k ≡ column_lift t growing k
columns-all t rows growing values n count all so_far many known within k = cases (cases_lt k n)
  where
    cases : ((k < n) ⊎ (n ≤ k)) → value_at_column values k ≡ column_lift t growing k
    cases (inl h) = so_far k h
    cases (inr h) = past-last values k (omega arith) ∙ sym (lift-past t rows growing k many (known k) within (omega arith))

-- ---- a basic column's row

pub basic_row : (t : Tableau) (c r : ℕ) → IsShaped t → IsBasic t → row_of_basic c 0 t.basics ≡ Some r → (r < length t.lines) × (pos 0 <ℤ entry_of (line_of t r) c)
basic_row t c r shaped basic h =
    let w = row_known t c r h in
    let row : r < rows_of t = w.0 in
    let more : rows_of t < length t.lines = shaped.lines in
    (omega arith, subst (λ d. pos 0 <ℤ entry_of (line_of t r) d) w.1 (basic.own r row))

pub nonzero_entry : (z y : ℤ) → z ≡ y → pos 0 <ℤ y → z ≡ pos 0 → ⊥
nonzero_entry z y e h q = omega (arith, ints)

-- ---- the values that were read

pub lifted-values : (t : Tableau) (growing : Option ℕ) (read now : List Frac) (given vs : List Var) → now ≡ read → given ≡ vs → ((k : ℕ) → value_at_column read k ≡ column_lift t growing k)
    → by_variable (value_at_column now) 0 given ≡ by_variable (column_lift t growing) 0 vs
lifted-values t growing read now given vs n g h =
    ap₂ (λ (es : List Frac) (ws : List Var). by_variable (value_at_column es) 0 ws) n g ∙ by_variable-same (value_at_column read) (column_lift t growing) 0 vs h

pub lifted-steps : (place : Var → Place) (t : Tableau) (growing : Option ℕ) (read now : List Frac) (given vs : List Var) → now ≡ read → given ≡ vs → ((k : ℕ) → value_at_column read k ≡ column_lift t growing k)
    → by_variable_steps place (value_at_column now) 0 given ≡ by_variable_steps place (column_lift t growing) 0 vs
lifted-steps place t growing read now given vs n g h =
    ap₂ (λ (es : List Frac) (ws : List Var). by_variable_steps place (value_at_column es) 0 ws) n g ∙ steps-same place (value_at_column read) (column_lift t growing) 0 vs h
