-- The rows of a trial of a book hold of a plan exactly where it meets the definitions and the inequalities that are listed.
use Rattle.explain_command.proofs.Common.{◌≡◌, ℕ, ℤ, pos, ◌*ℤ◌, Bool, true, false, not, ◌||◌, List, [], ◌∷◌, inl, inr, refl, sym, ap, ◌∙◌, subst, Data, Row, RowName, Var, instances, variable_of, Contains-from_Has, Has, Has-from_Contains, AreRowsOf, IsBook, is_unequal, placed, IsBookOf, sign-at, signs-each, is_taken, rows_with, FeasibleWith, MeetsAsked, is_asked}
use Rattle.std.specs.Prelude.{Option, Some, None, is_some}
use Rattle.std.proofs.lemmas.Bool.{cases_Bool, or_cases, or_right}
use Rattle.row_core.specs.declared.Sense.{Sense}
use Rattle.row_core.specs.declared.Sense.TheVariants.{Equal}
use Rattle.row_core.specs.Rows.{RowHolds, row_sum}
use Rattle.row_core.specs.Statements.{Stands}
use Rattle.row_book.specs.Definitions.{IsRepeatedIn}
use Rattle.certificate_checker.specs.Plans.{AllStand, MeetsAll}

abbrev right_of : ℕ → Row → ℤ
right_of q row = row.rhs *ℤ pos q

-- ---- what is taken is asked for, and what is asked for is taken

some-is : {A : Type 0} (o : Option A) → is_some o ≡ true → (x : A) × (o ≡ Some x)
some-is None h = absurd (cc h)
some-is (Some x) h = (x, refl)

asked-taken : (listed : RowName → Bool) (rows : List Row) (vars : List Var) → IsBook rows vars → (row : Row) → Has rows row → is_asked listed row.name ≡ true → is_taken listed row ≡ true
asked-taken listed rows vars book row there asked = elim (or_cases (is_some (variable_of row.name)) (listed row.name) asked) [
  | inl defines ↦
      let v = some-is (variable_of row.name) defines in
      let at = placed rows row there in
      rw (book.definitions.solvable at.place row v.0 at.at v.1).0
  | inr is ↦ or_right (not (is_unequal row.sense)) (listed row.name) is
]

-- ---- from rows to equations

meets-asked : (listed : RowName → Bool) (places : ℕ) (d : Data) (q : ℕ) (x : Var → ℤ) (names : List RowName) (rows : List Row) → ((row : Row) → Has rows row → is_asked listed row.name ≡ true → is_taken listed row ≡ true)
    → AreRowsOf places d names rows → AllStand (right_of q) (rows_with listed rows) x → MeetsAsked listed places d q x names
meets-asked listed places d q x [] [] takes are stand = tt
meets-asked listed places d q x [] (row ∷ rows) takes are stand = absurd are
meets-asked listed places d q x (name ∷ names) [] takes are stand = absurd are
meets-asked listed places d q x (name ∷ names) (row ∷ rows) takes are stand =
    let rest = meets-asked listed places d q x names rows (λ r h. takes r (inr h)) are.1 in
    elim (cases_Bool (is_taken listed row)) [
      | inl is ↦ let stands = rw is at stand in (λ asked. (are.0.says q x).0 stands.0, rest stands.1)
      | inr is ↦ (
        λ asked. let taken : is_taken listed row ≡ true = takes row (inl refl) (ap (is_asked listed) are.0.written.named ∙ asked) in absurd (cc (is, taken)),
        rest (rw is at stand),
      )
    ]

pub feasible-from_rows : (listed : RowName → Bool) (places : ℕ) (d : Data) (rows : List Row) (vars : List Var) → IsBook rows vars → IsBookOf places d rows vars → (q : ℕ) (x : Var → ℤ) → MeetsAll (rows_with listed rows) vars q x → FeasibleWith listed places d q x
feasible-from_rows listed places d rows vars kept book q x meets = record {
  positive = meets.positive;
  equations = meets-asked listed places d q x (instances d) rows (asked-taken listed rows vars kept) book.are_rows meets.rows_hold;
  signs = λ v there fixed. sign-at vars x v meets.signs (Has-from_Contains vars v (book.whole v there)) fixed;
}

-- ---- from equations to rows

-- each row whose name is asked for holds
asked-hold : (listed : RowName → Bool) (places : ℕ) (d : Data) (q : ℕ) (x : Var → ℤ) (names : List RowName) (rows : List Row) → AreRowsOf places d names rows → MeetsAsked listed places d q x names → (row : Row) → Has rows row → is_asked listed row.name ≡ true → RowHolds row q x
asked-hold listed places d q x [] [] are meets row h asked = absurd h
asked-hold listed places d q x [] (r ∷ rows) are meets row h asked = absurd are
asked-hold listed places d q x (name ∷ names) [] are meets row h asked = absurd h
asked-hold listed places d q x (name ∷ names) (r ∷ rows) are meets row (inl e) asked =
    subst (λ (t : Row). RowHolds t q x) e ((are.0.says q x).1 (meets.0 (ap (is_asked listed) (sym are.0.written.named ∙ ap (λ (t : Row). t.name) e) ∙ asked)))
asked-hold listed places d q x (name ∷ names) (r ∷ rows) are meets row (inr h) asked = asked-hold listed places d q x names rows are.1 meets.1 row h asked

equal-sense : (s : Sense) → is_unequal s ≡ false → s ≡ Equal
equal-sense Equal h = refl
equal-sense s h = absurd (cc h)

module _ (listed : RowName → Bool) (places : ℕ) (d : Data) (rows : List Row) (vars : List Var) (kept : IsBook rows vars) (book : IsBookOf places d rows vars) (q : ℕ) (x : Var → ℤ) (meets : FeasibleWith listed places d q x) where
  holds : (row : Row) → Has rows row → is_asked listed row.name ≡ true → RowHolds row q x
  holds row h asked = asked-hold listed places d q x (instances d) rows book.are_rows meets.equations row h asked

  -- an equation that defines nothing says what a definition says
  repeated-holds : (row : Row) → Has rows row → row.sense ≡ Equal → IsRepeatedIn rows row → RowHolds row q x
  repeated-holds row h equal r =
      let there = Has-from_Contains rows r.other r.among in
      let at = placed rows r.other there in
      let other_equal = (kept.definitions.solvable at.place r.other r.variable at.at r.defines).0 in
      let asked : is_asked listed r.other.name ≡ true = ap (λ o. is_some o || listed r.other.name) r.defines in
      let stands : Stands Equal (row_sum x r.other.entries.items) (r.other.rhs *ℤ pos q) = subst (λ s. Stands s (row_sum x r.other.entries.items) (r.other.rhs *ℤ pos q)) other_equal (holds r.other there asked) in
      subst (λ s. Stands s (row_sum x row.entries.items) (row.rhs *ℤ pos q)) (sym equal)
      (ap (λ (es : List (Var × ℤ)). row_sum x es) (sym r.entries) ∙ stands ∙ ap (λ z. z *ℤ pos q) r.right_side)

  taken-holds : (row : Row) → Has rows row → is_taken listed row ≡ true → RowHolds row q x
  taken-holds row h taken = by_sense (is_unequal row.sense) refl taken
    where
      by_variable : (o : Option Var) → variable_of row.name ≡ o → row.sense ≡ Equal → RowHolds row q x
      by_variable None is equal = let at = placed rows row h in repeated-holds row h equal (kept.definitions.repeated at.place row at.at equal is)
      by_variable (Some v) is equal = holds row h (ap (λ o. is_some o || listed row.name) is)

      by_sense : (t : Bool) → is_unequal row.sense ≡ t → (not t || listed row.name) ≡ true → RowHolds row q x
      by_sense true is k = holds row h (or_right (is_some (variable_of row.name)) (listed row.name) k)
      by_sense false is k = by_variable (variable_of row.name) refl (equal-sense row.sense is)

  all-stand : (some : List Row) → ((row : Row) → Has some row → Has rows row) → AllStand (right_of q) (rows_with listed some) x
  all-stand [] among = tt
  all-stand (row ∷ some) among =
      let rest = all-stand some (λ r h. among r (inr h)) in
      elim (cases_Bool (is_taken listed row)) [ inl is ↦ rw is (taken-holds row (among row (inl refl)) is, rest) | inr is ↦ rw is rest ]

  pub rows-from_feasible : MeetsAll (rows_with listed rows) vars q x
  rows-from_feasible = record {
    positive = meets.positive;
    rows_hold = all-stand rows (λ row h. h);
    signs = signs-each vars x (λ v there fixed. meets.signs v (book.exist v (Contains-from_Has vars v there)) fixed);
  }
