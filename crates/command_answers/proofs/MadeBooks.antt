-- What is known of a book of rows that was made of a model.
use Rattle.command_answers.proofs.Common.{◌≡◌, ℕ, true, List, inl, inr, Contains, AllByRecursion, Data, Row, Var, ascends, var_cmp, all_variables, exists, instances, Has-from_Contains, AreRowsOf, Book, CanBeMade, IsWithinSets, all-has, IsBookOf, IsWithinLimits, PassesLimits, DueBySize, DueForProgram, IsMadeBook, Status}
use Rattle.command_words.specs.declared.command.SolveMethod.{SolveMethod}
use Rattle.command_answers.proofs.CheckedRows.{vars-are}
use Rattle.command_answers.proofs.ListedNames.{rows-listed, vars-listed}

-- of what the call that makes it says
pub made-book : (places : ℕ) (d : Data) (book : Book) → CanBeMade places d 0 (instances d) → AreRowsOf places d (instances d) book.rows → AllByRecursion (λ v. exists d v ≡ true) book.vars
    → ascends var_cmp book.vars ≡ true → ((v : Var) → exists d v ≡ true → Contains book.vars v) → AllByRecursion (IsWithinSets d.sets) book.vars → IsMadeBook places d book
made-book places d book made are exist ascending whole within = record {
  made = made;
  is_book = record {
    are_rows = are;
    ascending = ascending;
    exist = λ v there. all-has (λ w. exists d w ≡ true) book.vars v exist (Has-from_Contains book.vars v there);
    whole = whole;
  };
  listed = record { rows_listed = rows-listed places d book.rows are; vars_listed = vars-listed d book.vars within exist };
}

-- what is due over a book is due of its data
pub program-due : (Over : List Row → Status → List ℕ → Type 0) (places : ℕ) (d : Data) (book : Book) → IsMadeBook places d book → (status : Status) (text : List ℕ) → Over book.rows status text
    → DueForProgram Over places d status text
program-due Over places d book made status text due = inl (record { made = made.made; rows = book.rows; are_rows = made.is_book.are_rows; due = due })

-- ---- sizes

module _ (places : ℕ) (d : Data) (rows : List Row) (vars : List Var) (book : IsBookOf places d rows vars) where
  -- a book is within the limits, or isn't, as its data say
  pub within-due : (method : SolveMethod) (pivots : ℕ) (Found Over : Status → List ℕ → Type 0) (status : Status) (text : List ℕ) → IsWithinLimits rows vars → Over status text → DueBySize method pivots Found Over rows (all_variables d) status text
  within-due method pivots Found Over status text within due = inr (inr (rw (vars-are places d rows vars book) at within, due))

  pub large-due : (method : SolveMethod) (pivots : ℕ) (Found Over : Status → List ℕ → Type 0) (status : Status) (text : List ℕ) → PassesLimits method pivots rows vars status text → DueBySize method pivots Found Over rows (all_variables d) status text
  large-due method pivots Found Over status text large = inr (inl (rw (vars-are places d rows vars book) at large))
