-- Definitions are expanded one after another: what is reduced by some is reduced by more, and an expanded definition keeps its own entry.
use Rattle.variable_elimination.proofs.Common.{◌≡◌, ℕ, zero, suc, ◌+◌, ◌<◌, ◌≤◌, ℤ, pos, ◌+ℤ◌, ◌*ℤ◌, Bool, true, false, List, [], ◌∷◌, ◌++◌, length, refl, sym, ap, ap₂, ◌∙◌, subst, arith, if◌then◌else◌, ◌<ℤ◌, nat_lt, ints, nat_tests, Rational, *ℤ_pos, zero-*ℤ, *ℤ-zero, Row, Var, number_at, row_sum, alone, factor_pos, row_sum-alone, Equal, var_cmp, is_eq, get_or, ◌||◌, cond, map, lookup, form_entry, Option, Some, None, IfSome, BTreeMap, get, all_fit, first_wide, first_wide-fits, first_wide-stops, Place, Expand, Stopped, Width, Memory, Form, form_of, var_cmp_exact, unscaled, definition_steps, definition_among, expanded, expanded_formed, IsFirst, Definition, rows_of, defined, is_among, AreTriangular, forms_in, HaveForms, HaveNone, IsPushed, IsSoFar, multiples_of, IsReduced, IsReducedBy, IsReducedOne}
use Rattle.row_core.specs.Stops.{IsStop}
use Rattle.variable_elimination.proofs.LiftLaws.{alike}
use Rattle.variable_elimination.proofs.LookUpLaws.{form_there, definition_among-get}
use Rattle.variable_elimination.proofs.SameForms.{expanded-same, expanded_formed-same}
use Rattle.variable_elimination.proofs.VariableLaws.{itself, none_there, turned}

-- the multiples up to a position, and 0 from there on
abbrev below : ℕ → (ℕ → ℤ) → ℕ → ℤ
below limit k n = if nat_lt n limit then k n else pos 0

same_below : (i limit : ℕ) (k : ℕ → ℤ) (f : Row → ℤ) (rows : List Row) → i + length rows ≤ limit → multiples_of i (below limit k) f rows ≡ multiples_of i k f rows
same_below i limit k f [] h = refl
same_below i limit k f (row ∷ rows) h =
    let yes : nat_lt i limit ≡ true = grind (arith, nat_tests) in
    ap₂ (λ t z. ((if t then k i else pos 0) *ℤ f row) +ℤ z) yes (same_below (suc i) limit k f rows (omega arith))

none_beyond : (i limit : ℕ) (k : ℕ → ℤ) (f : Row → ℤ) (rows : List Row) → limit ≤ i → multiples_of i (below limit k) f rows ≡ pos 0
none_beyond i limit k f [] h = refl
none_beyond i limit k f (row ∷ rows) h =
    let no : nat_lt i limit ≡ false = grind (arith, nat_tests) in
    ap₂ (λ t z. ((if t then k i else pos 0) *ℤ f row) +ℤ z) no (none_beyond (suc i) limit k f rows (omega arith)) ∙ ap (λ z. z +ℤ pos 0) (zero-*ℤ (f row))

multiples_of-append : (i : ℕ) (k : ℕ → ℤ) (f : Row → ℤ) (rows more : List Row) → multiples_of i k f (rows ++ more) ≡ multiples_of i k f rows +ℤ multiples_of (i + length rows) k f more
multiples_of-append i k f [] more = ap (λ n. multiples_of n k f more) (omega arith) ∙ zero_plus (multiples_of (i + 0) k f more)
  where
    zero_plus : (z : ℤ) → z ≡ pos 0 +ℤ z
    zero_plus z = omega (arith, ints)
multiples_of-append i k f (row ∷ rows) more =
    ap (λ z. (k i *ℤ f row) +ℤ z) (multiples_of-append (suc i) k f rows more ∙ ap (λ n. multiples_of (suc i) k f rows +ℤ multiples_of n k f more) (omega arith))
    ∙ assoc (k i *ℤ f row) (multiples_of (suc i) k f rows) (multiples_of (i + length (row ∷ rows)) k f more)
  where
    assoc : (a b c : ℤ) → a +ℤ (b +ℤ c) ≡ (a +ℤ b) +ℤ c
    assoc a b c = omega (arith, ints)

more_multiples : (k : ℕ → ℤ) (f : Row → ℤ) (rows more : List Row) → multiples_of 0 k f rows ≡ multiples_of 0 (below (length rows) k) f (rows ++ more)
more_multiples k f rows more =
    sym (multiples_of-append 0 (below (length rows) k) f rows more
    ∙ ap₂ (λ a b. a +ℤ b) (same_below 0 (length rows) k f rows (omega arith)) (none_beyond (0 + length rows) (length rows) k f more (omega arith))
    ∙ plus_zero (multiples_of 0 k f rows))
  where
    plus_zero : (z : ℤ) → z +ℤ pos 0 ≡ z
    plus_zero z = omega (arith, ints)

-- what is reduced by some definitions is reduced by more
pub IsReduced-more : (definitions more : List Row) (named : Row) (s : Rational) (new : Row) → IsReduced definitions named s new → IsReduced (definitions ++ more) named s new
IsReduced-more definitions more named s new r = record {
  over = r.over;
  multiple = below (length definitions) r.multiple;
  over_positive = r.over_positive;
  scale_positive = r.scale_positive;
  bottom_positive = r.bottom_positive;
  sums = λ x. r.sums x ∙ ap (λ z. ((s.top *ℤ r.over) *ℤ row_sum x named.entries.items) +ℤ z) (more_multiples r.multiple (λ row. row_sum x row.entries.items) definitions more);
  right_side = r.right_side ∙ ap (λ z. ((s.top *ℤ r.over) *ℤ named.rhs) +ℤ z) (more_multiples r.multiple (λ row. row.rhs) definitions more);
}

nothing_of : (v : Var) (i : ℕ) (k : ℕ → ℤ) (rows : List Row) → HaveNone v rows → multiples_of i k (λ row. row_sum (alone v) row.entries.items) rows ≡ pos 0
nothing_of v i k [] h = refl
nothing_of v i k (row ∷ rows) h =
    ap₂ (λ a b. (k i *ℤ a) +ℤ b) (row_sum-alone v row.entries.items row.ascending ∙ h.0) (nothing_of v (suc i) k rows h.1) ∙ ap (λ z. z +ℤ pos 0) (*ℤ-zero (k i))

-- a definition that is reduced by rows without its variable keeps a positive entry there
pub own_positive : (definitions : List Row) (named : Row) (s : Rational) (new : Row) (v : Var) → IsReduced definitions named s new → HaveNone v definitions → pos 0 <ℤ number_at named.entries.items v → pos 0 <ℤ number_at new.entries.items v
own_positive definitions named s new v r none positive =
    let n : ℤ = number_at new.entries.items v in
    let own : ℤ = number_at named.entries.items v in
    let scaled : n *ℤ (s.bottom *ℤ r.over) ≡ (s.top *ℤ r.over) *ℤ own =
    ap (λ z. z *ℤ (s.bottom *ℤ r.over)) (sym (row_sum-alone v new.entries.items new.ascending))
    ∙ r.sums (alone v)
    ∙ ap₂ (λ a b. ((s.top *ℤ r.over) *ℤ a) +ℤ b) (row_sum-alone v named.entries.items named.ascending) (nothing_of v 0 r.multiple definitions none)
    ∙ plus_zero ((s.top *ℤ r.over) *ℤ own) in
    factor_pos n (s.bottom *ℤ r.over) (*ℤ_pos s.bottom r.over r.bottom_positive r.over_positive)
    (subst (λ z. pos 0 <ℤ z) (sym scaled) (*ℤ_pos (s.top *ℤ r.over) own (*ℤ_pos s.top r.over r.scale_positive r.over_positive) positive))
  where
    plus_zero : (z : ℤ) → z +ℤ pos 0 ≡ z
    plus_zero z = omega (arith, ints)

-- ---- one definition more

get_or-front : (rows more : List Row) (i : ℕ) (d : Row) → i < length rows → get_or (rows ++ more) i d ≡ get_or rows i d
get_or-front [] more i d h = absurd (omega arith)
get_or-front (row ∷ rows) more zero d h = refl
get_or-front (row ∷ rows) more (suc i) d h = get_or-front rows more i d (omega arith)

get_or-last : (rows : List Row) (row d : Row) → get_or (rows ++ row ∷ []) (length rows) d ≡ row
get_or-last [] row d = refl
get_or-last (first ∷ rows) row d = get_or-last rows row d

length-last : (rows : List Row) (row : Row) → length (rows ++ row ∷ []) ≡ length rows + 1
length-last [] row = refl
length-last (first ∷ rows) row = ap suc (length-last rows row) ∙ omega arith

by_more : (definitions more : List Row) (named new : Row) → IsReducedBy definitions named new → IsReducedBy (definitions ++ more) named new
by_more definitions more named new r = record { scale = r.scale; lowest = r.lowest; reduced = IsReduced-more definitions more named r.scale new r.reduced }

one_more : (named : List Row) (row new : Row) → IsReducedOne named new → IsReducedOne (named ++ row ∷ []) new
one_more named row new o = record {
  position = o.position;
  within = let within : o.position < length named = o.within in let l = length-last named row in omega arith;
  reduced = subst (λ (first : Row). IsReducedBy (named ++ row ∷ []) first new) (sym (get_or-front named (row ∷ []) o.position new o.within)) (by_more named (row ∷ []) (get_or named o.position new) new o.reduced);
}

last_one : (named : List Row) (row new : Row) → IsReducedBy named row new → IsReducedOne (named ++ row ∷ []) new
last_one named row new r = record {
  position = length named;
  within = let l = length-last named row in omega arith;
  reduced = subst (λ (first : Row). IsReducedBy (named ++ row ∷ []) first new) (sym (get_or-last named row new)) (by_more named (row ∷ []) row new r);
}

-- what holds of the new row, and of each old one, holds of what is there
IfSome-updated : (P : Row → Type 0) (o old : Option Row) (b : Bool) (made : Row) → o ≡ cond b (Some made) old → (b ≡ true → P made) → ((row : Row) → old ≡ Some row → P row) → IfSome o P
IfSome-updated P o old true made e h k = rw e (h refl)
IfSome-updated P o None false made e h k = rw e tt
IfSome-updated P o (Some row) false made e h k = rw e (k row refl)

IfSome-read : (P : Row → Type 0) (o : Option Row) → IfSome o P → (row : Row) → o ≡ Some row → P row
IfSome-read P None h row e = absurd (cc e)
IfSome-read P (Some first) h row e = let same : first ≡ row = cc e in subst P same h

HaveNone-last : (v : Var) (rows : List Row) (row : Row) → HaveNone v rows → number_at row.entries.items v ≡ pos 0 → HaveNone v (rows ++ row ∷ [])
HaveNone-last v [] row h k = (k, tt)
HaveNone-last v (first ∷ rows) row h k = (h.0, HaveNone-last v rows row h.1 k)

or_true : (a : Bool) → (a || true) ≡ true
or_true true = refl
or_true false = refl

append_one : (xs ys : List Row) (x : Row) → xs ++ (x ∷ ys) ≡ (xs ++ x ∷ []) ++ ys
append_one [] ys x = refl
append_one (z ∷ zs) ys x = ap {B = List Row} (λ ws. z ∷ ws) (append_one zs ys x)

-- the forms, with one more
HaveForms-next : (row : Row) (v : Var) (m n : BTreeMap Var Row) (forms : List (Var × Form)) → HaveForms m forms → IsPushed row v m n
    → HaveForms n ((v, (expanded forms (unscaled (form_of row))).form) ∷ forms)
HaveForms-next row v m n forms have p w = definition_among-get n w ∙ ap form_there (p.updates w) ∙ cases (is_eq (var_cmp v w)) (turned v w)
  where
    form : form_of p.made ≡ (expanded forms (unscaled (form_of row))).form
    form = p.form ∙ ap (λ s. s.form) (expanded-same (forms_in m) forms have (unscaled (form_of row)))

    cases : (b : Bool) → b ≡ is_eq (var_cmp w v) → form_there (cond b (Some p.made) (get var_cmp m w)) ≡ definition_among ((v, (expanded forms (unscaled (form_of row))).form) ∷ forms) w
    cases true is = ap Some form ∙ ap (λ b. if b then Some (expanded forms (unscaled (form_of row))).form else definition_among forms w) is
    cases false is = sym (definition_among-get m w) ∙ have w ∙ ap (λ b. if b then Some (expanded forms (unscaled (form_of row))).form else definition_among forms w) is

-- after the next definition the same holds before those that are left then
pub IsSoFar-next : (all : List Definition) (row : Row) (v : Var) (rest left : List Definition) (m n : BTreeMap Var Row) → left ≡ record { row = row; variable = v } ∷ rest → IsPushed row v m n
    → all_fit (expanded_formed (forms_in m) (unscaled (form_of row))) ≡ true → IsSoFar all left m → IsSoFar all rest n
IsSoFar-next all row v rest left m n e p fit before = next (subst (λ ds. IsSoFar all ds m) e before)
  where
    next : IsSoFar all (record { row = row; variable = v } ∷ rest) m → IsSoFar all rest n
    next s =
        let one : IsReducedBy s.named row p.made = p.reduced s.named s.reduced in
        let none : HaveNone v s.named = s.apart v (ap (λ o. is_eq o || is_among (defined rest) v) (itself v)) in
        let positive : pos 0 <ℤ number_at p.made.entries.items v = own_positive s.named row one.scale p.made v one.reduced none s.triangular.0.positive in
        record {
          named = s.named ++ row ∷ [];
          forms = (v, (expanded s.forms (unscaled (form_of row))).form) ∷ s.forms;
          whole = s.whole ∙ append_one s.named (rows_of rest) row;
          have = HaveForms-next row v m n s.forms s.have p;
          made = s.made;
          steps = s.steps ∙ first_wide-fits (record { place = Expand row.name; formed = expanded_formed s.forms (unscaled (form_of row)) }) (definition_steps ((v, (expanded s.forms (unscaled (form_of row))).form) ∷ s.forms) rest)
              (ap all_fit (sym (expanded_formed-same (forms_in m) s.forms s.have (unscaled (form_of row)))) ∙ fit);
          reduced = λ w. IfSome-updated (IsReducedOne (s.named ++ row ∷ [])) (get var_cmp n w) (get var_cmp m w) (is_eq (var_cmp v w)) p.made (p.updates w)
              (λ is. last_one s.named row p.made one)
              (λ r there. one_more s.named row r (IfSome-read (IsReducedOne s.named) (get var_cmp m w) (s.reduced w) r there));
          apart = λ w h. HaveNone-last w s.named row (s.apart w (ap (λ t. is_eq (var_cmp w v) || t) h ∙ or_true (is_eq (var_cmp w v))))
              (sym (row_sum-alone w row.entries.items row.ascending) ∙ none_there (defined rest) w row.entries.items s.triangular.1 h);
          usable = λ w. IfSome-updated (λ (r : Row). (r.sense ≡ Equal) × (pos 0 <ℤ number_at r.entries.items w)) (get var_cmp n w) (get var_cmp m w) (is_eq (var_cmp v w)) p.made (p.updates w)
              (λ is. (p.sense ∙ s.triangular.0.equal, subst (λ u. pos 0 <ℤ number_at p.made.entries.items u) (var_cmp_exact v w (alike (var_cmp v w) is)) positive))
              (λ r there. IfSome-read (λ (q : Row). (q.sense ≡ Equal) × (pos 0 <ℤ number_at q.entries.items w)) (get var_cmp m w) (s.usable w) r there);
          triangular = s.triangular.3;
        }

-- it stops where the next definition forms a number that doesn't fit
pub IsSoFar-stop : (all : List Definition) (row : Row) (v : Var) (rest left : List Definition) (m : BTreeMap Var Row) → left ≡ record { row = row; variable = v } ∷ rest → IsSoFar all left m
    → all_fit (expanded_formed (forms_in m) (unscaled (form_of row))) ≡ false → first_wide (definition_steps [] all) ≡ Some (Expand row.name)
IsSoFar-stop all row v rest left m e before wide = stop (subst (λ ds. IsSoFar all ds m) e before)
  where
    stop : IsSoFar all (record { row = row; variable = v } ∷ rest) m → first_wide (definition_steps [] all) ≡ Some (Expand row.name)
    stop s =
        s.steps ∙ first_wide-stops (record { place = Expand row.name; formed = expanded_formed s.forms (unscaled (form_of row)) }) (definition_steps ((v, (expanded s.forms (unscaled (form_of row))).form) ∷ s.forms) rest)
        (ap all_fit (sym (expanded_formed-same (forms_in m) s.forms s.have (unscaled (form_of row)))) ∙ wide)

pub IsSoFar-none : (ds : List Definition) (m : BTreeMap Var Row) → m.entries ≡ [] → AreTriangular ds → IsSoFar ds ds m
IsSoFar-none ds m empty h = record {
  named = [];
  forms = [];
  whole = refl;
  have = λ v. ap (λ es. definition_among (map_forms es) v) empty;
  made = refl;
  steps = refl;
  reduced = λ v. rw (nothing v) tt;
  apart = λ v k. tt;
  usable = λ v. rw (nothing v) tt;
  triangular = h;
}
  where
    map_forms : List (Var × Row) → List (Var × Form)
    map_forms es = map form_entry es

    nothing : (v : Var) → get var_cmp m v ≡ None
    nothing v = ap (lookup (λ k. is_eq (var_cmp v k))) empty

-- the stop is at the first step
pub IsFirst-from : (first : Option Place) (place : Place) (fits : Bool) (e : Stopped) → (fits ≡ false → first ≡ Some place) → IsStop place fits e → IsFirst first e
IsFirst-from first place fits (Width at) h stop = h stop.1 ∙ ap Some (sym stop.0)
IsFirst-from first place fits Memory h stop = tt
