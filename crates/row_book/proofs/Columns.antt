-- Each variable that exists stands in some row.
use Rattle.row_book.proofs.Common.{◌≡◌, ◌≢◌, ℕ, ◌+◌, ◌<◌, ◌≤◌, ℤ, pos, negsuc, ◌+ℤ◌, ◌*ℤ◌, Bool, true, false, inl, inr, List, [], ◌∷◌, Some, refl, ap, sym, ◌∙◌, subst, arith, le-leb, lt-ltb, ltb-true, both_true, int_cmp, is_eq, ◌<ℤ◌, ◌≤ℤ◌, if◌then◌else◌, Ordering, Less, Equal, Greater, ints, whole, int_cmp-equal, int_cmp-greater, int_cmp-less, Data, Row, RowName, Var, EquationTerms, IsRowOf, coefficients_of, right_of, terms_of, variables_of, var_cmp, number_at, IsOver, IsSumOver, alone, multiple-sign, written-IsMultiple, var_cmp_exact, still_counts, years_counting, exists, subscripts_of_kind, at_rlty, at_rrrlfy, at_rty, instances, name_at, subscripts_of, variable_of, all_years, count_of, modes, number_of_year, IsNamedRow, is_made_of, sum_away, accumulated_new_capacity, new_capacity, rate_of_activity, rate_of_total_activity, trade, variable, life_of, Has, alone-self, AreComplete, entry_variables, AreRowsOf, IsChosen, terms_at}
use Rattle.model_sets.specs.Names as sets
use Rattle.row_core.proofs.SumLaws.{IsSumOver-gathered}
use Rattle.row_book.proofs.Definers.{exists-within, is-found}
use Rattle.row_book.proofs.Elements.{Has-filter}
use Rattle.row_book.proofs.GivenValues.{Has-part, life-at_least}
use Rattle.row_book.proofs.Instances.{Has-instance, IsInstance}
use Rattle.row_book.proofs.Numbers.{Has-range}
use Rattle.row_book.proofs.GatheredLaws.{terms-positive, value_of_amount-IsLowest}
use Rattle.row_book.proofs.SignLaws.{alike}
use Rattle.row_book.proofs.Subscripts.{AreValues, In, index-from_values, index-tidied, values-from_index, values-rlty, values-rrrlfy, values-rty}
use Rattle.row_book.proofs.Triangles.{row-of}

-- ---- entries

-- a number that isn't 0 is that of an entry
pub has-entry : (es : List (Var × ℤ)) (v : Var) → number_at es v ≢ pos 0 → Has (variables_of es) v
has-entry [] v some = absurd (some refl)
has-entry (e ∷ es) v some = by_test (is_eq (var_cmp e.0 v)) refl some (has-entry es v)
  where
    by_test : (b : Bool) → is_eq (var_cmp e.0 v) ≡ b → (if b then e.1 else number_at es v) ≢ pos 0 → (number_at es v ≢ pos 0 → Has (variables_of es) v) → Has (e.0 ∷ variables_of es) v
    by_test true is some rest = inl (var_cmp_exact e.0 v (alike (var_cmp e.0 v) is))
    by_test false is some rest = inr (rest some)

different : (o p : Ordering) → o ≡ p → o ≡ Equal → p ≢ Equal → ⊥
different o p same equal other = other (sym same ∙ equal)

-- the row has an entry where the sum of its terms, of this variable alone, isn't 0
pub entry-from_sum : (v : Var) (name : RowName) (e : EquationTerms) (row : Row) (n : ℤ) → IsRowOf name e row → IsSumOver (pos 1) (alone v) (coefficients_of e.terms) n → int_cmp n (pos 0) ≢ Equal
    → Has (variables_of row.entries.items) v
entry-from_sum v name e row n is sum some =
    let terms = terms_of e in
    let multiple = written-IsMultiple terms (right_of e) row (terms-positive e) (value_of_amount-IsLowest e.right).positive is.entries is.right_side in
    let same = multiple-sign terms (right_of e) row multiple v (pos 1) n (omega (arith, ints)) (IsSumOver-gathered (pos 1) (alone v) (coefficients_of e.terms) n sum) in
    has-entry row.entries.items v
    (λ none. different (int_cmp (number_at row.entries.items v) (pos 0)) (int_cmp n (pos 0)) same (int_cmp-equal (number_at row.entries.items v) (pos 0) none) some)

never_less : (o : Ordering) → o ≡ Less → o ≢ Equal
never_less o less equal = cc

never_greater : (o : Ordering) → o ≡ Greater → o ≢ Equal
never_greater o greater equal = cc

-- ---- sums of this variable alone

over_one : (n : ℤ) → IsOver (pos 1) (whole n) n
over_one n = record { positive = omega (arith, ints); cross = refl }

alone_least : (v u : Var) → pos 0 ≤ℤ alone v u
alone_least v u = by_test (is_eq (var_cmp u v))
  where
    by_test : (b : Bool) → pos 0 ≤ℤ (if b then pos 1 else pos 0)
    by_test true = omega (arith, ints)
    by_test false = omega (arith, ints)

alone_other : (v u : Var) → u ≢ v → alone v u ≡ pos 0
alone_other v u other = by_test (is_eq (var_cmp u v)) refl
  where
    by_test : (b : Bool) → is_eq (var_cmp u v) ≡ b → (if b then pos 1 else pos 0) ≡ pos 0
    by_test true is = absurd (other (var_cmp_exact u v (alike (var_cmp u v) is)))
    by_test false is = refl

-- what others take away
abbrev taken : (Var → ℤ) → (ℕ → Var) → List ℕ → ℤ
taken x w [] = pos 0
taken x w (i ∷ is) = (negsuc 0 *ℤ x (w i)) +ℤ taken x w is

taken_sum : (x : Var → ℤ) (w : ℕ → Var) (is : List ℕ) → IsSumOver (pos 1) x (coefficients_of (sum_away is w)) (taken x w is)
taken_sum x w [] = refl
taken_sum x w (i ∷ is) = (negsuc 0, taken x w is, over_one (negsuc 0), taken_sum x w is, refl)

one_taken : (v u : Var) → (negsuc 0 *ℤ alone v u) ≤ℤ pos 0
one_taken v u = by_test (is_eq (var_cmp u v))
  where
    by_test : (b : Bool) → (negsuc 0 *ℤ (if b then pos 1 else pos 0)) ≤ℤ pos 0
    by_test true = omega (arith, ints)
    by_test false = omega (arith, ints)

taken_most : (v : Var) (w : ℕ → Var) (is : List ℕ) → taken (alone v) w is ≤ℤ pos 0
taken_most v w [] = omega (arith, ints)
taken_most v w (i ∷ is) =
    let first = one_taken v (w i) in
    let rest = taken_most v w is in
    omega (arith, ints, first, rest)

taken_below : (v : Var) (w : ℕ → Var) (is : List ℕ) (j : ℕ) → Has is j → w j ≡ v → taken (alone v) w is <ℤ pos 0
taken_below v w [] j has same = absurd has
taken_below v w (i ∷ is) j (inl e) same =
    let here : alone v (w i) ≡ pos 1 = ap (λ k. alone v (w k)) e ∙ ap (alone v) same ∙ alone-self v in
    let first : negsuc 0 *ℤ alone v (w i) ≡ negsuc 0 = ap (λ z. negsuc 0 *ℤ z) here in
    let rest = taken_most v w is in
    omega (arith, ints, first, rest)
taken_below v w (i ∷ is) j (inr has) same =
    let first = one_taken v (w i) in
    let rest = taken_below v w is j has same in
    omega (arith, ints, first, rest)

-- the row that makes a variable of others has an entry at each of them
entry_of_sum : (v own : Var) (w : ℕ → Var) (is : List ℕ) (j : ℕ) (name : RowName) (row : Row) → IsRowOf name (is_made_of own (sum_away is w)) row → own ≢ v → Has is j → w j ≡ v
    → Has (variables_of row.entries.items) v
entry_of_sum v own w is j name row is_row other has same =
    let below = taken_below v w is j has same in
    let none : pos 1 *ℤ alone v own ≡ pos 0 = ap (λ z. pos 1 *ℤ z) (alone_other v own other) in
    let n : ℤ = (pos 1 *ℤ alone v own) +ℤ taken (alone v) w is in
    let less : n <ℤ pos 0 = omega (arith, ints, below, none) in
    entry-from_sum v name (is_made_of own (sum_away is w)) row n is_row (pos 1, taken (alone v) w is, over_one (pos 1), taken_sum (alone v) w is, refl)
    (never_less (int_cmp n (pos 0)) (int_cmp-less n (pos 0) less))

-- ---- the variables that a plan chooses

-- a row of an instance has an entry at the variable
abbrev Stands : List Row → Var → Type 0
Stands rows v = Has (entry_variables rows) v

stands_in : (places : ℕ) (d : Data) (rows : List Row) (name : RowName) (v : Var) → AreRowsOf places d (instances d) rows → IsInstance d name
    → ((row : Row) → IsNamedRow places d name (terms_at places d name) row → Has (variables_of row.entries.items) v) → Stands rows v
stands_in places d rows name v are instance entry =
    let found = row-of places d (instances d) rows name are (Has-instance d name instance) in
    Has-part (λ (row : Row). variables_of row.entries.items) rows found.0 v found.1.0 (entry found.0 found.1.1)

position_in : (d : Data) (k i : ℕ) → In d k i → i < count_of d k
position_in d k i inside = ltb-true i (count_of d k) inside

other_kind : (v w : Var) → v.kind ≢ w.kind → v ≢ w
other_kind v w other same = other (ap (λ (u : Var). u.kind) same)

-- RateOfActivity, in the sum over the modes
activity_stands : (places : ℕ) (d : Data) (rows : List Row) (r l t m y : ℕ) → AreRowsOf places d (instances d) rows → In d sets.region r → In d sets.timeslice l → In d sets.technology t → In d sets.mode m → In d sets.year y
    → Stands rows (rate_of_activity r l t m y)
activity_stands places d rows r l t m y are in_r in_l in_t in_m in_y =
    let v = rate_of_activity r l t m y in
    let name = name_at 4 (at_rlty r l t y) in
    let inside = position_in d sets.mode m in_m in
    stands_in places d rows name v are
    (record { equation = (omega arith, omega arith); within = index-from_values d (subscripts_of 4) (at_rlty r l t y) (values-rlty d r l t y in_r in_l in_t in_y); stands = refl })
    (λ row is.
    entry_of_sum v (rate_of_total_activity r l t y) (λ i. rate_of_activity r l t i y) (modes d) m name row is.written (other_kind (rate_of_total_activity r l t y) v (omega arith))
    (Has-range 0 (count_of d sets.mode) m (omega arith) (omega (arith, inside))) refl)

-- NewCapacity, in the sum over the years that count: its own year does
counts_itself : (d : Data) (r t y : ℕ) → 1 ≤ life_of d r t → still_counts d r t y y ≡ true
counts_itself d r t y life = both_true (le-leb (number_of_year d y) (number_of_year d y) (omega arith)) (lt-ltb (number_of_year d y) (number_of_year d y + life_of d r t) (omega (arith, life)))

capacity_stands : (places : ℕ) (d : Data) (rows : List Row) (r t y : ℕ) → AreComplete d → AreRowsOf places d (instances d) rows → In d sets.region r → In d sets.technology t → In d sets.year y → Stands rows (new_capacity r t y)
capacity_stands places d rows r t y complete are in_r in_t in_y =
    let v = new_capacity r t y in
    let name = name_at 2 (at_rty r t y) in
    let inside = position_in d sets.year y in_y in
    stands_in places d rows name v are
    (record { equation = (omega arith, omega arith); within = index-from_values d (subscripts_of 2) (at_rty r t y) (values-rty d r t y in_r in_t in_y); stands = refl })
    (λ row is.
    entry_of_sum v (accumulated_new_capacity r t y) (λ i. new_capacity r t i) (years_counting d r t y) y name row is.written (other_kind (accumulated_new_capacity r t y) v (omega arith))
    (Has-filter (still_counts d r t y) (all_years d) y (Has-range 0 (count_of d sets.year) y (omega arith) (omega (arith, inside))) (counts_itself d r t y (life-at_least d r t complete in_r in_t))) refl)

-- Trade, in the exchange of its two regions
trade_stands : (places : ℕ) (d : Data) (rows : List Row) (r rr l f y : ℕ) → AreRowsOf places d (instances d) rows → In d sets.region r → In d sets.region rr → In d sets.timeslice l → In d sets.fuel f → In d sets.year y
    → Stands rows (trade r rr l f y)
trade_stands places d rows r rr l f y are in_r in_rr in_l in_f in_y =
    let v = trade r rr l f y in
    let name = name_at 16 (at_rrrlfy r rr l f y) in
    let one : alone v v ≡ pos 1 = alone-self v in
    let other : pos 0 ≤ℤ alone v (trade rr r l f y) = alone_least v (trade rr r l f y) in
    let last : ℤ = (pos 1 *ℤ alone v (trade rr r l f y)) +ℤ pos 0 in
    let n : ℤ = (pos 1 *ℤ alone v v) +ℤ last in
    let more : pos 0 <ℤ n = omega (arith, ints, one, other) in
    stands_in places d rows name v are
    (record { equation = (omega arith, omega arith); within = index-from_values d (subscripts_of 16) (at_rrrlfy r rr l f y) (values-rrrlfy d r rr l f y in_r in_rr in_l in_f in_y); stands = refl })
    (λ row is.
    entry-from_sum v name (terms_at places d name) row n is.written (pos 1, last, over_one (pos 1), (pos 1, pos 0, over_one (pos 1), refl, refl), refl)
    (never_greater (int_cmp n (pos 0)) (int_cmp-greater n (pos 0) more)))

-- ---- the whole

never_zero : (z : ℤ) → pos 0 <ℤ z → z ≢ pos 0
never_zero z positive none = absurd (omega (arith, ints, positive, none))

-- the variable of a definition
defined_stands : (places : ℕ) (d : Data) (rows : List Row) (name : RowName) (v : Var) → AreRowsOf places d (instances d) rows → IsInstance d name → variable_of name ≡ Some v → Stands rows v
defined_stands places d rows name v are instance defines =
    stands_in places d rows name v are instance
    (λ row is. has-entry row.entries.items v (never_zero (number_at row.entries.items v) (is.defines v defines)))

chosen_stands : (places : ℕ) (d : Data) (rows : List Row) (v : Var) → AreComplete d → AreRowsOf places d (instances d) rows → AreValues d (subscripts_of_kind v.kind) v.index → IsChosen v → Stands rows v
chosen_stands places d rows v complete are at (inl activity) =
    let i = v.index in
    let one = subst (λ k. AreValues d (subscripts_of_kind k) i) activity at in
    let same : v ≡ rate_of_activity i.region i.slice i.tech i.mode i.year = ap (λ k. variable k i) activity ∙ ap (variable 1) (index-tidied d (subscripts_of_kind 1) i one) in
    subst (Stands rows) (sym same) (activity_stands places d rows i.region i.slice i.tech i.mode i.year are one.region one.slice one.tech one.mode one.year)
chosen_stands places d rows v complete are at (inr (inl capacity)) =
    let i = v.index in
    let two = subst (λ k. AreValues d (subscripts_of_kind k) i) capacity at in
    let same : v ≡ new_capacity i.region i.tech i.year = ap (λ k. variable k i) capacity ∙ ap (variable 2) (index-tidied d (subscripts_of_kind 2) i two) in
    subst (Stands rows) (sym same) (capacity_stands places d rows i.region i.tech i.year complete are two.region two.tech two.year)
chosen_stands places d rows v complete are at (inr (inr trades)) =
    let i = v.index in
    let three = subst (λ k. AreValues d (subscripts_of_kind k) i) trades.0 at in
    let same : v ≡ trade i.region i.other i.slice i.fuel i.year = ap (λ k. variable k i) trades.0 ∙ ap (variable 3) (index-tidied d (subscripts_of_kind 3) i three) in
    subst (Stands rows) (sym same) (trade_stands places d rows i.region i.other i.slice i.fuel i.year are three.region three.other three.slice three.fuel three.year)

pub all-stand : (places : ℕ) (d : Data) (rows : List Row) (v : Var) → AreComplete d → AreRowsOf places d (instances d) rows → exists d v ≡ true → Has (entry_variables rows) v
all-stand places d rows v complete are there =
    elim (is-found d v there) [
      | inl chosen ↦ chosen_stands places d rows v complete are (values-from_index d (subscripts_of_kind v.kind) v.index (exists-within d v there)) chosen
      | inr found ↦ defined_stands places d rows found.name v are found.instance found.defines
    ]
