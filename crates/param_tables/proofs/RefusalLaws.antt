-- The refusals of a parameter, by its table.
use Rattle.param_tables.proofs.Common.{◌≡◌, ℕ, zero, suc, ◌<◌, List, [], ◌∷◌, Option, None, Some, length, get_or, refl, ap, ◌∙◌, subst, arith, ℤ, cons_option, filter_map, option_map, option_or, Data, indices_of, first_of, range_of, Refusal, AtIndex, fault_at, param_refusals, value_fault, IsFirstFault, IsTableFor, entries_of, given_in, place_fault, value_else, CellFault, PlaceFault, ParamTable, Range}
use Rattle.param_tables.proofs.DataLaws.{value_by_table}

-- ---- the first of what is kept of a list

pub filter_map_none : {X Y : Type 0} (f : X → Option Y) (xs : List X) (d : X) → ((j : ℕ) → j < length xs → f (get_or xs j d) ≡ None) → filter_map f xs ≡ []
filter_map_none f [] d none = refl
filter_map_none f (x ∷ xs) d none = ap (λ o. cons_option o (filter_map f xs)) (none 0 (omega arith)) ∙ filter_map_none f xs d (λ j below. none (suc j) (omega arith))

pub first_of-filter_map : {X Y : Type 0} (f : X → Option Y) (xs : List X) (d : X) (i : ℕ) (y : Y) → i < length xs → f (get_or xs i d) ≡ Some y → ((j : ℕ) → j < i → f (get_or xs j d) ≡ None) → first_of (filter_map f xs) ≡ Some y
first_of-filter_map f [] d i y below found none = absurd (omega arith)
first_of-filter_map f (x ∷ xs) d zero y below found none = ap (λ o. first_of (cons_option o (filter_map f xs))) found
first_of-filter_map f (x ∷ xs) d (suc i) y below found none =
    ap (λ o. first_of (cons_option o (filter_map f xs))) (none 0 (omega arith)) ∙ first_of-filter_map f xs d i y (omega arith) found (λ j less. none (suc j) (omega arith))

-- ---- the faults of a table

value_fault-else : (range : Range) (given other : Option ℤ) → value_fault range (option_or given other) ≡ place_fault range (value_fault range other) given
value_fault-else range None other = refl
value_fault-else range (Some v) other = refl

module _ (d : Data) (param : ℕ) (table : ParamTable) (for : IsTableFor d param table) where
  -- the fault at a place
  abbrev pub table_fault : ℕ → Option CellFault
  table_fault place = place_fault (range_of param) (value_fault (range_of param) (value_else param table.default)) (given_in (entries_of table) place)

  fault_at-place : (place : ℕ) → place < length (indices_of d.sets param) → fault_at d param (get_or (indices_of d.sets param) place []) ≡ table_fault place
  fault_at-place place below = ap (value_fault (range_of param)) (value_by_table d param table for place below) ∙ value_fault-else (range_of param) (given_in (entries_of table) place) (value_else param table.default)

  refusal_of : List (List ℕ) → Option Refusal
  refusal_of index = option_map (λ fault. AtIndex fault param index) (fault_at d param index)

  pub param_refusals-none : IsFirstFault table_fault (length (indices_of d.sets param)) None → param_refusals d param ≡ []
  unfolding refusal_of
  param_refusals-none none = filter_map_none refusal_of (indices_of d.sets param) [] (λ j below. ap (option_map (λ fault. AtIndex fault param (get_or (indices_of d.sets param) j []))) (fault_at-place j below ∙ none j below))

  pub param_refusals-first : (found : PlaceFault) → IsFirstFault table_fault (length (indices_of d.sets param)) (Some found) → first_of (param_refusals d param) ≡ Some (AtIndex found.fault param (get_or (indices_of d.sets param) found.place []))
  unfolding refusal_of
  param_refusals-first found first =
      let all = indices_of d.sets param in
      let below : found.place < length all = first.0 in
      first_of-filter_map refusal_of all [] found.place (AtIndex found.fault param (get_or all found.place [])) below
      (ap (option_map (λ fault. AtIndex fault param (get_or all found.place []))) (fault_at-place found.place below ∙ first.1))
      (λ j less. ap (option_map (λ fault. AtIndex fault param (get_or all j []))) (fault_at-place j (omega arith) ∙ first.2 j less))

pub same_faults : (range other_range : Range) (missing other : Option CellFault) (size other_size : ℕ) (entries : List (ℕ × ℤ)) (found : Option PlaceFault) → range ≡ other_range → missing ≡ other → size ≡ other_size → IsFirstFault (λ place. place_fault range missing (given_in entries place)) size found → IsFirstFault (λ place. place_fault other_range other (given_in entries place)) other_size found
same_faults range other_range missing other size other_size entries found er em es first =
    subst (λ r. IsFirstFault (λ place. place_fault r other (given_in entries place)) other_size found) er
    (subst (λ m. IsFirstFault (λ place. place_fault range m (given_in entries place)) other_size found) em
    (subst (λ n. IsFirstFault (λ place. place_fault range missing (given_in entries place)) n found) es first))
