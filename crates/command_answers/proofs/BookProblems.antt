-- The rows of a book, with what each of them defines, are a problem: all that the solver asks for. A book says of its rows by their positions what a problem says of
-- definitions one after another.
use Rattle.command_answers.proofs.Common.{◌≡◌, ◌≢◌, ℕ, suc, ◌+◌, ◌<◌, ℤ, pos, Bool, true, false, not, ◌&&◌, ◌||◌, List, [], ◌∷◌, ◌++◌, ◌⊎◌, inl, inr, length, get_or, take, nat_eq, nat_le, refl, sym, ap, ap₂, ◌∙◌, arith, eq-eqb, if◌then◌else◌, list_all, false_from_ne_true, leb-true, le-ltb, lt-ltb, ltb-true, ltb-false, or_cases, or_from, or_left, or_parts, or_right, ints, get_or_default, map-append, take_more, Row, RowName, Var, IsEquation, kind_is_free, ascends, variables_of, var_cmp, entry_variables, number_at, Contains-from_Has, Has, Has-flat_map, Has-from_Contains, var_cmp_exact, var_cmp_total, equation_numbers, subscripts_of, variable_of, trade, variable, IsBook, chosen-some, Definition, definitions_of, defined, is_among, others_of, rows_of, avoids, AreTriangular, cost_variable, is_column, definer, definers}
use Rattle.std.specs.Prelude.{◌<ℤ◌, ◌≤ℤ◌, int_le, Option, Some, None, slice_get, Contains}
use Rattle.std.specs.Cmp.Derive.{both_true}
use Rattle.std.specs.Ordering.{is_eq, is_lt}
use lib.Dec.{ltb}
use Rattle.row_core.specs.declared.Sense.TheVariants.{Equal}
use Rattle.row_core.specs.declared.kind_numbers.TheConstants.{RATE_OF_ACTIVITY, NEW_CAPACITY, TRADE}
use Rattle.row_core.proofs.AscendingLaws.{both_passed, Less-from_test, ascends-skip, ascends-tail}
use Rattle.named_equations.specs.Table.{other_trade}
use Rattle.row_book.specs.Definitions.{IsAt, IsChosen, IsDefinedIn}
use Rattle.row_book.specs.Kinds.{tidied}
use Rattle.row_book.proofs.KeptLaws.{at-index}
use Rattle.row_book.proofs.KindLaws.{defined-by_kind, kind_of, nothing-defined}
use Rattle.row_book.proofs.Numbers.{passes-at}
use Rattle.written_method.specs.Ready.{IsAmong}
use Rattle.variable_elimination.specs.Meaning.{only_raises, KeepSigns}
use Rattle.variable_elimination.specs.SoFar.{HaveNone}
use Rattle.variable_elimination.proofs.LeftLaws.{number_at-none}
use Rattle.variable_elimination.proofs.LiftLaws.{alike, from_not}
use Rattle.variable_elimination.proofs.ReadyLaws.{contains-from_among}
use Rattle.variable_elimination.proofs.VariableLaws.{itself}
use Rattle.row_problem.specs.Problems.{IsProblem, IsRepeatedBy}

-- the definitions among the rows
abbrev definitions : List Row → List Definition
definitions rows = definitions_of rows (definers rows)

-- the variable is one that they define
abbrev is_defined : List Row → Var → Bool
is_defined rows v = is_among (defined (definitions rows)) v

-- ---- rows and variables of lists

pub record IsPlaced (rows : List Row) (row : Row) : Type 0 where
  pub place : ℕ
  pub at : slice_get rows place ≡ Some row

pub placed : (rows : List Row) (row : Row) → Has rows row → IsPlaced rows row
placed [] row h = absurd h
placed (r ∷ rows) row (inl e) = record { place = 0; at = ap Some e }
placed (r ∷ rows) row (inr h) = let rest = placed rows row h in record { place = suc rest.place; at = rest.at }

among-list : (vs : List Var) (v : Var) → is_among vs v ≡ true → IsAmong v vs
among-list [] v h = absurd (cc h)
among-list (w ∷ vs) v h = elim (or_cases (is_eq (var_cmp v w)) (is_among vs v) h) [
  | inl same ↦ inl (var_cmp_exact v w (alike (var_cmp v w) same))
  | inr later ↦ inr (among-list vs v later)
]

-- one row more
pub definers-next : (rows : List Row) (i : ℕ) (made : List (Option Var)) (found : Option Var) → i < length rows → made ≡ definers (take i rows) → ((row : Row) → IsAt rows i row → found ≡ definer row) → made ++ found ∷ [] ≡ definers (take (i + 1) rows)
definers-next [] i made found h so_far each = absurd (omega (arith, h))
definers-next (first ∷ rows) i made found h so_far each =
    let all : List Row = first ∷ rows in
    let row : Row = get_or all i first in
    let here : found ≡ definer row = each row (at-index all i row h (get_or_default all i first row h)) in
    ap₂ (λ (ds : List (Option Var)) (d : Option Var). ds ++ d ∷ []) so_far here ∙ sym (ap definers (take_more all i first h) ∙ map-append definer (take i all) (row ∷ []))

as-many : (rows : List Row) → length (definers rows) ≡ length rows
as-many [] = refl
as-many (row ∷ rows) = ap suc (as-many rows)

-- ---- what rows define

-- the row that defines a variable
record IsFound (rows : List Row) (w : Var) : Type 0 where
  place : ℕ
  row : Row
  there : slice_get rows place ≡ Some row
  defines : definer row ≡ Some w

found : (rows : List Row) (w : Var) → is_defined rows w ≡ true → IsFound rows w
found [] w h = absurd (cc h)
found (row ∷ rows) w h = cases (definer row) refl h (λ k. later (found rows w k))
  where
    later : IsFound rows w → IsFound (row ∷ rows) w
    later f = record { place = suc f.place; row = f.row; there = f.there; defines = f.defines }

    cases : (o : Option Var) → definer row ≡ o → is_among (defined (definitions_of (row ∷ rows) (o ∷ definers rows))) w ≡ true → (is_defined rows w ≡ true → IsFound (row ∷ rows) w) → IsFound (row ∷ rows) w
    cases None is k rest = rest k
    cases (Some v) is k rest = elim (or_cases (is_eq (var_cmp w v)) (is_defined rows w) k) [
      | inl same ↦ record { place = 0; row = row; there = refl; defines = is ∙ ap Some (sym (var_cmp_exact w v (alike (var_cmp w v) same))) }
      | inr among ↦ rest among
    ]

-- a row that defines a variable is a definition of it
abbrev definition_at : Row → Var → Definition
definition_at row v = record { row = row; variable = v }

definition-has : (rows : List Row) (row : Row) (v : Var) → Has rows row → definer row ≡ Some v → Has (definitions rows) (definition_at row v)
definition-has [] row v h d = absurd h
definition-has (first ∷ rows) row v (inl same) d = rw (same, d) (inl refl)
definition-has (first ∷ rows) row v (inr h) d = cases (definer first) (definition-has rows row v h d)
  where
    cases : (o : Option Var) → Has (definitions rows) (definition_at row v) → Has (definitions_of (first ∷ rows) (o ∷ definers rows)) (definition_at row v)
    cases None rest = rest
    cases (Some w) rest = inr rest

defined-has : (ds : List Definition) (d : Definition) → Has ds d → is_among (defined ds) d.variable ≡ true
defined-has [] d h = absurd h
defined-has (e ∷ ds) d (inl same) = or_left (is_eq (var_cmp d.variable e.variable)) (is_among (defined ds) d.variable) (ap (λ (f : Definition). is_eq (var_cmp d.variable f.variable)) same ∙ ap is_eq (itself d.variable))
defined-has (e ∷ ds) d (inr h) = or_right (is_eq (var_cmp d.variable e.variable)) (is_among (defined ds) d.variable) (defined-has ds d h)

-- a row that defines nothing is one of the others
others_none : (rows : List Row) (row : Row) → Has (others_of rows (definers rows)) row → Has rows row × (definer row ≡ None)
others_none [] row h = absurd h
others_none (first ∷ rows) row h = cases (definer first) refl h (λ k. let rest = others_none rows row k in (inr rest.0, rest.1))
  where
    cases : (o : Option Var) → definer first ≡ o → Has (others_of (first ∷ rows) (o ∷ definers rows)) row → (Has (others_of rows (definers rows)) row → Has (first ∷ rows) row × (definer row ≡ None)) → Has (first ∷ rows) row × (definer row ≡ None)
    cases None is (inl e) rest = (inl e, ap definer (sym e) ∙ is)
    cases None is (inr k) rest = rest k
    cases (Some w) is k rest = rest k

-- none has an entry at a variable at which no row has one
none_of : (some : List Row) (defs : List (Option Var)) (v : Var) → ((r : Row) → Has some r → number_at r.entries.items v ≡ pos 0) → HaveNone v (rows_of (definitions_of some defs))
none_of [] defs v h = tt
none_of (r ∷ rows) [] v h = tt
none_of (r ∷ rows) (None ∷ defs) v h = none_of rows defs v (λ t k. h t (inr k))
none_of (r ∷ rows) (Some w ∷ defs) v h = (h r (inl refl), none_of rows defs v (λ t k. h t (inr k)))

-- ---- one definition after another

-- entries at none of some variables avoid them
avoids-none : (vars : List Var) (es : List (Var × ℤ)) → ((w : Var) → IsAmong w (variables_of es) → is_among vars w ≡ true → ⊥) → avoids vars es ≡ true
avoids-none vars [] h = refl
avoids-none vars (e ∷ es) h = both_true (ap not (false_from_ne_true (is_among vars e.0) (h e.0 (inl refl)))) (avoids-none vars es (λ w k. h w (inr k)))

-- each of them is an equation with a positive entry
abbrev AreSolvable : List Row → Type 0
AreSolvable rows = (i : ℕ) (row : Row) (v : Var) → IsAt rows i row → definer row ≡ Some v → (row.sense ≡ Equal) × (pos 0 <ℤ number_at row.entries.items v)

-- without an entry at a variable that is defined later
abbrev AreBackward : List Row → Type 0
AreBackward rows = (i j : ℕ) (row later : Row) (v w : Var) → i < j → IsAt rows i row → IsAt rows j later → definer row ≡ Some v → definer later ≡ Some w → Contains (variables_of row.entries.items) w → ⊥

-- and no variable is defined twice
abbrev AreOnce : List Row → Type 0
AreOnce rows = (i j : ℕ) (row other : Row) (v : Var) → IsAt rows i row → IsAt rows j other → definer row ≡ Some v → definer other ≡ Some v → i ≡ j

triangular-at : (rows : List Row) → AreSolvable rows → AreBackward rows → AreOnce rows → AreTriangular (definitions rows)
triangular-at [] solvable backward once = tt
triangular-at (row ∷ rows) solvable backward once =
    cases (definer row) refl
    (triangular-at rows (λ i. solvable (suc i)) (λ i j r l v w h. backward (suc i) (suc j) r l v w (omega (arith, h))) (λ i j r o v at bt d e. less (once (suc i) (suc j) r o v at bt d e)))
  where
    less : {i j : ℕ} → suc i ≡ suc j → i ≡ j
    less h = omega (arith, h)

    not_later : (v w : Var) → definer row ≡ Some v → IsAmong w (variables_of row.entries.items) → is_defined rows w ≡ true → ⊥
    not_later v w is among k =
        let f = found rows w k in
        backward 0 (suc f.place) row f.row v w (omega arith) refl f.there is f.defines (contains-from_among (variables_of row.entries.items) w among)

    alone : (v : Var) → definer row ≡ Some v → is_defined rows v ≡ true → ⊥
    alone v is k = let f = found rows v k in let e : 0 ≡ suc f.place = once 0 (suc f.place) row f.row v refl f.there is f.defines in absurd (omega (arith, e))

    cases : (o : Option Var) → definer row ≡ o → AreTriangular (definitions rows) → AreTriangular (definitions_of (row ∷ rows) (o ∷ definers rows))
    cases None is rest = rest
    cases (Some v) is rest =
        let s = solvable 0 row v refl is in
        (record { equal = s.0; positive = s.1 }, avoids-none (defined (definitions rows)) row.entries.items (λ w. not_later v w is), ap not (false_from_ne_true (is_defined rows v) (alone v is)), rest)

-- ---- signs

not_among : (v : Var) (es : List (Var × ℤ)) → ascends var_cmp (v ∷ variables_of es) ≡ true → is_among (variables_of es) v ≡ false
not_among v [] h = refl
not_among v (e ∷ es) h =
    or_from (is_eq (var_cmp v e.0)) (is_among (variables_of es) v) (ap is_eq (Less-from_test (var_cmp v e.0) (both_passed (is_lt (var_cmp v e.0)) (ascends var_cmp (variables_of (e ∷ es))) h).0))
    (not_among v es (ascends-skip var_cmp var_cmp_total v e.0 (variables_of es) h))

le_to_test : (a b : ℤ) → a ≤ℤ b → int_le a b ≡ true
le_to_test a b h = grind (arith, ints)

-- where each entry but the own is at most 0, and no variable is free, the entries only raise
raises : (v : Var) (es : List (Var × ℤ)) → ascends var_cmp (variables_of es) ≡ true → ((w : Var) → IsAmong w (variables_of es) → kind_is_free w.kind ≡ false) → ((w : Var) → (w ≡ v → ⊥) → number_at es w ≤ℤ pos 0) → only_raises v es ≡ true
raises v [] up bounded others = refl
raises v (e ∷ es) up bounded others = both_true (first (is_eq (var_cmp e.0 v)) refl) (raises v es (ascends-tail var_cmp e.0 (variables_of es) up) (λ w k. bounded w (inr k)) later)
  where
    first : (t : Bool) → is_eq (var_cmp e.0 v) ≡ t → (t || (int_le e.1 (pos 0) && not (kind_is_free e.0.kind))) ≡ true
    first true is = refl
    first false is =
        let apart : e.0 ≢ v = λ same. let alike_there : is_eq (var_cmp e.0 v) ≡ true = rw (← same, itself e.0) in absurd (cc (is, alike_there)) in
        let own : e.1 ≤ℤ pos 0 = rw (itself e.0) at (others e.0 apart) in
        both_true (le_to_test e.1 (pos 0) own) (ap not (bounded e.0 (inl refl)))

    later : (w : Var) → (w ≡ v → ⊥) → number_at es w ≤ℤ pos 0
    later w apart = cases (is_eq (var_cmp e.0 w)) refl (others w apart)
      where
        cases : (t : Bool) → is_eq (var_cmp e.0 w) ≡ t → (if t then e.1 else number_at es w) ≤ℤ pos 0 → number_at es w ≤ℤ pos 0
        cases true is k =
            let same : e.0 ≡ w = var_cmp_exact e.0 w (alike (var_cmp e.0 w) is) in
            let none : number_at es w ≡ pos 0 = number_at-none es w (rw same at (not_among e.0 es up)) in
            rw none (omega (arith, ints))
        cases false is k = k

-- a definition of a variable that isn't free has no entry at a free one, none above 0 but its own, and a right side of at least 0
abbrev AreMadeOfParts : List Row → Type 0
AreMadeOfParts rows =
    (i : ℕ) (row : Row) (v : Var) → IsAt rows i row → definer row ≡ Some v → kind_is_free v.kind ≡ false
    → ((w : Var) → IsAmong w (variables_of row.entries.items) → kind_is_free w.kind ≡ false) × ((w : Var) → (w ≡ v → ⊥) → number_at row.entries.items w ≤ℤ pos 0) × (pos 0 ≤ℤ row.rhs)

signs-at : (rows : List Row) → AreMadeOfParts rows → KeepSigns (definitions rows)
signs-at [] made = tt
signs-at (row ∷ rows) made = cases (definer row) refl (signs-at rows (λ i. made (suc i)))
  where
    cases : (o : Option Var) → definer row ≡ o → KeepSigns (definitions rows) → KeepSigns (definitions_of (row ∷ rows) (o ∷ definers rows))
    cases None is rest = rest
    cases (Some v) is rest = (λ bounded. let m = made 0 row v refl is bounded in (raises v row.entries.items row.ascending m.0 m.1, m.2), rest)

-- ---- kinds

-- a chosen variable is a column
chosen-column : (v : Var) → IsChosen v → is_column v ≡ true
chosen-column v (inl e) = rw (eq-eqb v.kind RATE_OF_ACTIVITY e)
chosen-column v (inr (inl e)) = rw (eq-eqb v.kind NEW_CAPACITY e) (or_right (nat_eq v.kind RATE_OF_ACTIVITY) true refl)
chosen-column v (inr (inr (e, h))) =
    rw (eq-eqb v.kind TRADE e, lt-ltb v.index.region v.index.other h) (or_right (nat_eq v.kind RATE_OF_ACTIVITY) (nat_eq v.kind NEW_CAPACITY || true) (or_right (nat_eq v.kind NEW_CAPACITY) true refl))

-- it isn't the variable that stands for the cost
not_chosen : IsChosen cost_variable → ⊥
not_chosen (inl e) = let zero_is : 0 ≡ RATE_OF_ACTIVITY = e in absurd (omega (arith, zero_is))
not_chosen (inr (inl e)) = let zero_is : 0 ≡ NEW_CAPACITY = e in absurd (omega (arith, zero_is))
not_chosen (inr (inr (e, h))) = let zero_is : 0 ≡ TRADE = e in absurd (omega (arith, zero_is))

-- no named equation defines a variable that a plan chooses
abbrev isnt_chosen : ℕ → Bool
isnt_chosen n = not (nat_eq (kind_of n) RATE_OF_ACTIVITY || nat_eq (kind_of n) NEW_CAPACITY)

none-is : list_all isnt_chosen equation_numbers ≡ true
none-is = refl

kind-apart : (name : RowName) → IsEquation name.eq → (nat_eq (kind_of name.eq) RATE_OF_ACTIVITY ≡ false) × (nat_eq (kind_of name.eq) NEW_CAPACITY ≡ false)
kind-apart name equation =
    or_parts (nat_eq (kind_of name.eq) RATE_OF_ACTIVITY) (nat_eq (kind_of name.eq) NEW_CAPACITY)
    (from_not (nat_eq (kind_of name.eq) RATE_OF_ACTIVITY || nat_eq (kind_of name.eq) NEW_CAPACITY) (passes-at isnt_chosen 1 64 name.eq none-is equation.0 (omega (arith, equation.1))))

-- nor one that is a column, nor one of kind 0
abbrev IsApart : Var → Type 0
IsApart v = (is_column v ≡ false) × (v.kind ≢ 0)

defined-apart : (name : RowName) (v : Var) → variable_of name ≡ Some v → IsApart v
defined-apart name v defines = below (ltb name.eq 1) (ltb 64 name.eq) refl refl
  where
    by_test : IsEquation name.eq → (b c : Bool) → nat_eq (kind_of name.eq) 0 ≡ b → nat_eq (kind_of name.eq) TRADE ≡ c
        → (if b then None else if c then other_trade name.index else Some (variable (kind_of name.eq) (tidied (subscripts_of name.eq) name.index))) ≡ Some v → IsApart v
    by_test equation true c is trade_is e = absurd (cc e)
    by_test equation false true is trade_is e =
        let i = name.index in
        let chosen = chosen-some (nat_le i.region i.other) (trade i.other i.region i.slice i.fuel i.year) v e in
        rw (← chosen.1) (le-ltb i.other i.region (leb-true i.region i.other chosen.0), λ z. let zero_is : TRADE ≡ 0 = z in absurd (omega (arith, zero_is)))
    by_test equation false false is trade_is e =
        let same : variable (kind_of name.eq) (tidied (subscripts_of name.eq) name.index) ≡ v = cc e in
        let other = kind-apart name equation in
        rw (← same) (rw (other.0, other.1, trade_is), λ z. let passes : nat_eq (kind_of name.eq) 0 ≡ true = eq-eqb (kind_of name.eq) 0 z in absurd (cc (is, passes)))

    below : (b c : Bool) → ltb name.eq 1 ≡ b → ltb 64 name.eq ≡ c → IsApart v
    below true c is_b is_c = let none : None ≡ Some v = nothing-defined name (inl (ltb-true name.eq 1 is_b)) ∙ defines in absurd (cc none)
    below false true is_b is_c = let none : None ≡ Some v = nothing-defined name (inr (ltb-false name.eq 1 is_b, ltb-true 64 name.eq is_c)) ∙ defines in absurd (cc none)
    below false false is_b is_c =
        let equation : IsEquation name.eq = (ltb-false name.eq 1 is_b, ltb-false 64 name.eq is_c) in
        by_test equation (nat_eq (kind_of name.eq) 0) (nat_eq (kind_of name.eq) TRADE) refl refl (sym (defined-by_kind name equation) ∙ defines)

-- ---- books

module _ (rows : List Row) (vars : List Var) (book : IsBook rows vars) where
  -- a variable of a row is one of the book's
  entry_there : (row : Row) (v : Var) → Has rows row → IsAmong v (variables_of row.entries.items) → Contains (entry_variables rows) v
  entry_there row v h k =
      Contains-from_Has (entry_variables rows) v
      (Has-flat_map (λ (r : Row). variables_of r.entries.items) rows row v h (Has-from_Contains (variables_of row.entries.items) v (contains-from_among (variables_of row.entries.items) v k)))

  is_known : (v : Var) → IsChosen v ⊎ IsDefinedIn rows v → (is_defined rows v ≡ true) ⊎ (is_column v ≡ true)
  is_known v (inl c) = inr (chosen-column v c)
  is_known v (inr d) = inl (defined-has (definitions rows) (definition_at d.row v) (definition-has rows d.row v (Has-from_Contains rows d.row d.among) d.defines))

  not_cost : IsChosen cost_variable ⊎ IsDefinedIn rows cost_variable → ⊥
  not_cost (inl c) = not_chosen c
  not_cost (inr d) = (defined-apart d.row.name cost_variable d.defines).1 refl

  repeated_of : (row : Row) → Contains (others_of rows (definers rows)) row → row.sense ≡ Equal → IsRepeatedBy (definitions rows) row
  repeated_of row h equal =
      let here = others_none rows row (Has-from_Contains (others_of rows (definers rows)) row h) in
      let p = placed rows row here.0 in
      let r = book.definitions.repeated p.place row p.at equal here.1 in
      let d : Definition = definition_at r.other r.variable in
      record {
        definition = d;
        among = Contains-from_Has (definitions rows) d (definition-has rows r.other r.variable (Has-from_Contains rows r.other r.among) r.defines);
        entries = r.entries;
        right_side = r.right_side;
      }

  pub book-problem : IsProblem rows (definers rows) vars
  book-problem = record {
    same = as-many rows;
    named = book.ascending;
    ascending = book.variables.ascending;
    listed = λ v h. (book.variables.each v).1 h;
    known = λ v h. is_known v (book.definitions.whole v ((book.variables.each v).0 h));
    apart = λ v h. let d = found rows v h in (defined-apart d.row.name v d.defines).0;
    triangular = triangular-at rows book.definitions.solvable book.definitions.backward book.definitions.once;
    plain = none_of rows (definers rows) cost_variable
        (λ r h.
        number_at-none r.entries.items cost_variable
        (false_from_ne_true (is_among (variables_of r.entries.items) cost_variable) (λ k. not_cost (book.definitions.whole cost_variable (entry_there r cost_variable h (among-list (variables_of r.entries.items) cost_variable k))))));
    signs = signs-at rows
        (λ i row v at d bounded. let m = book.signs i row v at d bounded in (λ w k. m.bounded w (contains-from_among (variables_of row.entries.items) w k), m.others, m.right_side));
    repeated = repeated_of;
  }
