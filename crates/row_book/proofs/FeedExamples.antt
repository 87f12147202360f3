-- What a feed of rows tells, and what a first pass through all rows finds: examples, and near misses.
use Rattle.row_book.proofs.Common.{◌≡◌, ℕ, ◌<◌, pos, negsuc, Bool, true, false, List, [], ◌∷◌, ◌++◌, map, length, refl, sym, ap, ap₂, ◌∙◌, subst, inl, inr, arith, true≢false, Contains-append_left, Contains-append_right, Row, Var, CAA1, CC1, gcd_of, gcd_within, lowest, plus, times, capital_investment, new_capacity, RowContents, contents_of, has_kind, HasContentsWithin, ahead_after, ahead_at, all_contents, contents_at, equation_contents, IsFeed, AreHeld, KeepsRows, held_variables, is_before_kind, is_of_kind, next_kind, AreSortedVariables, AreTallied, Counts, Marks, MarksMore, found_variables, kind_room, marked, names_to, rows_before, entry_variables, AreRowsOf, row_fits, HeldRows, Tally, Discounting, Data, instances, instances_of, places_of}
use Rattle.std.specs.Prelude.{None, Option, Some}
use Rattle.std.specs.List.{Contains, list_all}
use Rattle.row_core.specs.declared.Sense.TheVariants.{Equal}
use Rattle.row_core.specs.declared.kind_numbers.TheConstants.{CAPITAL_INVESTMENT, TRADE}
use Rattle.row_book.proofs.Examples.{at_zeros, base}
use Rattle.row_book.proofs.InvestmentExamples.{spread}

-- ---- what rows say

-- an investment is 5 times the new capacity
abbrev investment : RowContents
investment = record {
  name = at_zeros CC1;
  sense = Equal;
  entries = (new_capacity 0 0 0, negsuc 4) ∷ (capital_investment 0 0 0, pos 1) ∷ [];
  rhs = pos 0;
}

investment_says : contents_at 9 (spread false) (at_zeros CC1) ≡ investment
unfolding contents_at lowest times plus gcd_of gcd_within
investment_says = refl

-- the one row of CC1; none of EBa4, as nothing is taken in
one_row : equation_contents 9 (spread false) CC1 ≡ investment ∷ []
unfolding equation_contents contents_at lowest times plus gcd_of gcd_within
one_row = refl

no_row : equation_contents 6 base 10 ≡ []
unfolding equation_contents
no_row = refl

-- the names of all rows are the instances
all_names : map (λ row. row.name) (all_contents 6 base)
    ≡ map at_zeros
    (1 ∷ 2 ∷ 3 ∷ 4 ∷ 5 ∷ 6 ∷ 7 ∷ 8 ∷ 9 ∷ 12 ∷ 13 ∷ 14 ∷ 15 ∷ 16 ∷ 17 ∷ 18 ∷ 19 ∷ 20 ∷ 21 ∷ 22 ∷ 24 ∷ 25 ∷ 26 ∷ 29 ∷ 30
    ∷ 31 ∷ 32 ∷ 33 ∷ 34 ∷ 38 ∷ 39 ∷ 40 ∷ 41 ∷ 42 ∷ 47 ∷ 50 ∷ 53 ∷ 54 ∷ 55 ∷ 56 ∷ 57 ∷ 58 ∷ 59 ∷ [])
unfolding all_contents contents_at
all_names = refl

-- an equation past the last one has no place in the list
past_last : (row : RowContents) → row.name.eq ≡ 65 → HasContentsWithin base.sets row → ⊥
past_last row past within = omega (arith, past, within.0.1)

-- ---- the place among the rows

-- before the rows are made: all that the equation has, numbered from the next position on
not_made : (a b : RowContents) → ahead_after 3 false [] (a ∷ b ∷ []) ≡ (4, a) ∷ (5, b) ∷ []
not_made a b = refl

-- afterwards those that are made, which are kept with the last one first and come in order
made : (first second : Row) → ahead_after 3 true (second ∷ first ∷ []) [] ≡ (4, contents_of first) ∷ (5, contents_of second) ∷ []
made first second = refl

-- when all of them were taken none is ahead, though the equation has one
all_taken : (a : RowContents) → ahead_after 4 true [] (a ∷ []) ≡ []
all_taken a = refl

-- of rows that are held, those after the ones that were taken; where none are held, how many were taken says nothing
one_taken : (a b c : RowContents) → ahead_at (Some 0) 1 4 false [] (a ∷ b ∷ c ∷ []) ≡ (5, b) ∷ (6, c) ∷ []
one_taken a b c = refl

three_taken : (a b c : RowContents) → ahead_at (Some 0) 3 6 false [] (a ∷ b ∷ c ∷ []) ≡ []
three_taken a b c = refl

none_held : (a b : RowContents) → ahead_at None 1 3 false [] (a ∷ b ∷ []) ≡ (4, a) ∷ (5, b) ∷ []
none_held a b = refl

-- ---- what a first pass finds

-- how many rows stand before those of each equation
counts_before : rows_before base 64
    ≡ 0 ∷ 1 ∷ 2 ∷ 3 ∷ 4 ∷ 5 ∷ 6 ∷ 7 ∷ 8 ∷ 9 ∷ 9 ∷ 9 ∷ 10 ∷ 11 ∷ 12 ∷ 13 ∷ 14 ∷ 15 ∷ 16 ∷ 17 ∷ 18 ∷ 19 ∷ 20 ∷ 20 ∷ 21 ∷ 22 ∷ 23 ∷ 23 ∷ 23
    ∷ 24 ∷ 25 ∷ 26 ∷ 27 ∷ 28 ∷ 29 ∷ 29 ∷ 29 ∷ 29 ∷ 30 ∷ 31 ∷ 32 ∷ 33 ∷ 34 ∷ 34 ∷ 34 ∷ 34 ∷ 34 ∷ 35 ∷ 35 ∷ 35 ∷ 36 ∷ 36 ∷ 36 ∷ 37 ∷ 38 ∷ 39
    ∷ 40 ∷ 41 ∷ 42 ∷ 43 ∷ 43 ∷ 43 ∷ 43 ∷ 43 ∷ []
counts_before = refl

-- the instances of the first three equations
first_names : names_to base 3 ≡ map at_zeros (1 ∷ 2 ∷ 3 ∷ [])
first_names = refl

-- the row of CC1 has an entry at an investment, and none at a trade; of CAa1 none is among these
kind_there : has_kind CC1 CAPITAL_INVESTMENT (investment ∷ []) ≡ true
kind_there = refl

other_kind : has_kind CC1 TRADE (investment ∷ []) ≡ false
other_kind = refl

other_equation : has_kind CAA1 CAPITAL_INVESTMENT (investment ∷ []) ≡ false
other_equation = refl

-- kind 1 of equation 0 is marked, and kind 0 isn't, nor is what lies past the table's end
is_marked : marked (false ∷ true ∷ []) 0 1 ≡ true
is_marked = refl

isnt_marked : marked (false ∷ true ∷ []) 0 0 ≡ false
isnt_marked = refl

past_end : marked (false ∷ true ∷ []) 1 1 ≡ false
past_end = refl

-- a mark that is added must be there, and one that was there stays
mark_left_out : MarksMore (false ∷ false ∷ []) (false ∷ false ∷ []) (λ eq kind. true) → ⊥
mark_left_out is = true≢false (sym (is.each 0 1 (omega arith) (omega arith)))

mark_taken_away : MarksMore (true ∷ []) (false ∷ []) (λ eq kind. false) → ⊥
mark_taken_away is = true≢false (sym (is.each 0 0 (omega arith) (omega arith)))

-- a table with room for one equation alone is too short
short_table : (table : List Bool) → length table ≡ kind_room → Marks table [] → ⊥
short_table table short is = omega (arith, short, is.long)

-- a row that was looked at is counted
row_not_counted : (row : Row) (old new : Tally) → new.rows ≡ old.rows → Counts (row ∷ []) old new → ⊥
row_not_counted row old new same is = omega (arith, same, is.number)

-- before the first equation nothing is counted
counted_too_early : (t : Tally) → t.rows ≡ 1 → AreTallied 6 base 0 t → ⊥
counted_too_early t one is = omega (arith, one, is.number)

-- ---- the variables

-- those that were gathered, and after them those of the rows that are held
found : (t : Tally) (v : Var) (g h : HeldRows) → t.vars.items ≡ v ∷ [] → t.held.items ≡ g ∷ h ∷ [] → found_variables t ≡ v ∷ (entry_variables g.rows.items ++ (entry_variables h.rows.items ++ []))
found t v g h gathered held = ap₂ (λ (vs : List Var) (hs : List HeldRows). vs ++ held_variables hs) gathered held

-- before the first equation there are none, neither gathered nor of rows that are held
no_variable : (rows : List Row) (v : Var) → AreRowsOf 6 base [] rows → Contains (entry_variables rows) v → ⊥
no_variable [] v are has = let below : has.0 < 0 = has.1 in omega (arith, below)
no_variable (row ∷ rows) v are has = absurd are

gathered_too_early : (t : Tally) (v : Var) → t.vars.items ≡ v ∷ [] → AreTallied 6 base 0 t → ⊥
gathered_too_early t v gathered is =
    let there : Contains (found_variables t) v = Contains-append_left t.vars.items (held_variables t.held.items) v (subst (λ (vs : List Var). Contains vs v) (sym gathered) (0, omega arith, refl)) in
    no_variable is.all v is.rows ((is.variables v).0 there)

held_too_early : (t : Tally) (v : Var) → Contains (held_variables t.held.items) v → AreTallied 6 base 0 t → ⊥
held_too_early t v held is = no_variable is.all v is.rows ((is.variables v).0 (Contains-append_right t.vars.items (held_variables t.held.items) v held))

-- each once, in order; a list with one twice doesn't ascend
sorted : AreSortedVariables (new_capacity 0 0 0 ∷ []) (new_capacity 0 0 0 ∷ [])
sorted = record { ascending = refl; same = λ v. (λ there. there, λ there. there) }

twice : (vs : List Var) → AreSortedVariables vs (new_capacity 0 0 0 ∷ new_capacity 0 0 0 ∷ []) → ⊥
twice vs is = true≢false (sym is.ascending)

left_out : AreSortedVariables (new_capacity 0 0 0 ∷ []) [] → ⊥
left_out is = let none = (is.same (new_capacity 0 0 0)).1 (0, omega arith, refl) in let below : none.0 < 0 = none.1 in omega (arith, below)

-- ---- a feed

module _ (d : Data) (factors : List Discounting) (before : List ℕ) (kinds : List Bool) (held : List HeldRows) (place : Option ℕ) where
  -- none stands at an equation past the last one
  at_no_equation : IsFeed d factors before kinds held place 65 → ⊥
  at_no_equation is = omega (arith, is.equation.1)

  -- none is of rows that can't all be made
  unmade : list_all (row_fits (places_of factors) d) (instances d) ≡ false → IsFeed d factors before kinds held place 1 → ⊥
  unmade wide is = true≢false (sym is.made.fit ∙ wide)

  -- and none is without a count for each equation
  uncounted : IsFeed d factors [] kinds held place 1 → ⊥
  uncounted is = let long : 0 ≡ 64 = ap length is.counts in omega (arith, long)

-- ---- variables kind by kind

of : ℕ → Var
of kind = record { kind = kind; index = (new_capacity 0 0 0).index }

-- after kind 3 comes 4, wherever it stands; and where a lesser one was found before, that one
next : next_kind 3 None (of 5 ∷ of 3 ∷ of 4 ∷ of 9 ∷ []) ≡ Some 4
unfolding of
next = refl

found_before : next_kind 3 (Some 4) (of 5 ∷ of 9 ∷ []) ≡ Some 4
unfolding of
found_before = refl

-- the same kind and those before it don't come after it
no_next : next_kind 3 None (of 3 ∷ of 1 ∷ []) ≡ None
unfolding of
no_next = refl

-- a kind isn't before itself
not_before : is_before_kind 3 (of 3) ≡ false
unfolding of
not_before = refl

of_itself : is_of_kind 3 (of 3) ≡ true
unfolding of
of_itself = refl

-- ---- rows that are held

-- the rows of another equation aren't held as those of this one
of_another : (rows : List Row) (h : HeldRows) → h.eq ≡ 2 → KeepsRows 1 rows [] (h ∷ []) → ⊥
of_another rows h is keeps = elim keeps [
  | inl same ↦ (let long : 1 ≡ 0 = ap length same in omega (arith, long))
  | inr kept ↦ (let one : h ≡ kept.0 = cc kept.1 in let wrong : 2 ≡ 1 = sym is ∙ ap (λ (x : HeldRows). x.eq) one ∙ kept.2 in omega (arith, wrong))
]

-- those of this one are, after the others, whichever these are
held_next : (rows : List Row) (g h : HeldRows) → h.eq ≡ 7 → h.rows.items ≡ rows → KeepsRows 7 rows (g ∷ []) (g ∷ h ∷ [])
held_next rows g h is are = inr (h, refl, is, are)

-- an equation that has a row isn't held by an empty list
row_left_out : (h : HeldRows) → h.eq ≡ 1 → h.rows.items ≡ [] → AreHeld 6 base (h ∷ []) → ⊥
row_left_out h is none held = subst (AreRowsOf 6 base (instances_of base 1)) none (subst (λ (n : ℕ). AreRowsOf 6 base (instances_of base n) h.rows.items) is (held 0 (omega arith) h))
