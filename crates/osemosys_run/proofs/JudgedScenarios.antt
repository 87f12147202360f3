-- From what `check` says of a proof over the rows of data to what is known of a scenario.
use Rattle.osemosys_run.proofs.Common.{Source, ◌≡◌, ◌≢◌, ◌++◌, ℕ, List, [], ◌∷◌, Bool, true, false, filter, inl, inr, Ok, Err, refl, sym, ◌∙◌, subst, AllByRecursion, Rational, Data, SetLists, RowName, Var, Book, Accepted, HasNoRows, IsMadeBook, DueWhereNotAccepted, Fields, Proof, Optimum, Refutation, Descent, IsProof, Answer, Status, Done, TellsProof, DueOfCheck, IsRefused, AreTablesFor, CompareShow, Judged, files_line, Which, CheckedBy, AcceptsOver, IsKept, IsUnkept, RefusesOver}
use Rattle.std.proofs.Common.{cond}
use Rattle.plan_files.specs.Listed.{IsListedVariable}
use Rattle.row_core.specs.NameTexts.{VariableIsWithin}
use Rattle.row_core.specs.Numbers.{keys_of}
use Rattle.page_tables.specs.PageTables.{HasValuesWithin}
use Rattle.proof_files.specs.PlansWithin.{HasPlanWithin}
use Rattle.command_answers.specs.declared.proved.AcceptedProof.{AcceptedProof}

-- ---- statuses

-- where rows can't be made, the status isn't 0
pub no-rows-not_done : (places : ℕ) (d : Data) (status : Status) (text : List ℕ) → HasNoRows places d status text → status ≢ Done
no-rows-not_done places d status text (inl wide) = λ done. cc (sym done ∙ wide.status_is)
no-rows-not_done places d status text (inr many) = λ done. cc (sym done ∙ many.status_is)

-- nor where the text of a data file isn't accepted
pub refused-not_done : (source : Source) (status : Status) (text : List ℕ) → DueWhereNotAccepted source status text → status ≢ Done
refused-not_done source status text (inl (inl refused)) = λ done. cc (sym done ∙ refused.status_is)
refused-not_done source status text (inl (inr (blocks, says, inl refused))) = λ done. cc (sym done ∙ refused.status_is)
refused-not_done source status text (inl (inr (blocks, says, inr refused))) = λ done. cc (sym done ∙ refused.status_is)
refused-not_done source status text (inr changes) = λ done. cc (sym done ∙ changes.refused.status_is)

-- ---- over data

-- what `check` says over the rows of a book is what it says over the data: where it accepts the proof
pub accepted-over : (show : CompareShow) (places gap : ℕ) (d : Data) (bytes : List ℕ) (book : Book) → IsMadeBook places d book → (accepted : AcceptedProof) (tables : List ℕ) → TellsProof places bytes gap d book.rows (Ok accepted)
    → AreTablesFor show places d book.rows accepted.proof tables → AcceptsOver show places gap d bytes accepted tables
accepted-over show places gap d bytes book made accepted tables told tabled = record {
  made = record { made = made.made; rows = book.rows; are_rows = made.is_book.are_rows; due = told.due };
  told = told.told;
  worth = told.worth;
  tabled = tabled;
}

-- and where it doesn't
pub refused-over : (places gap : ℕ) (d : Data) (bytes : List ℕ) (book : Book) → IsMadeBook places d book → (said : Answer) → TellsProof places bytes gap d book.rows (Err said) → RefusesOver places gap d bytes said.status said.text.items
refused-over places gap d bytes book made said told = record {
  due = inl (record { made = made.made; rows = book.rows; are_rows = made.is_book.are_rows; due = told.due });
  not_done = told.not_done;
}

-- ---- the values that are shown of a proof

keys_within : (sets : SetLists) (values : List (Var × Rational)) → AllByRecursion (IsListedVariable sets) (keys_of values) → AllByRecursion (λ (e : Var × Rational). VariableIsWithin sets e.0) values
keys_within sets [] all = tt
keys_within sets (e ∷ values) all = (all.0.1, keys_within sets values all.1)

all-kept : {A : Type 0} (P : A → Type 0) (test : A → Bool) (xs : List A) → AllByRecursion P xs → AllByRecursion P (filter test xs)
all-kept P test [] all = tt
all-kept P test (x ∷ xs) all = cases (test x) (all-kept P test xs all.1)
  where
    cases : (t : Bool) → AllByRecursion P (filter test xs) → AllByRecursion P (cond t (x ∷ filter test xs) (filter test xs))
    cases true rest = (all.0, rest)
    cases false rest = rest

-- a direction's variables are among those of the data
pub values_within : (sets : SetLists) (vars : List Var) (names : List RowName) (all : List Fields) (proof : Proof) → AllByRecursion (IsListedVariable sets) vars → IsProof sets vars names all proof → HasPlanWithin sets proof
    → HasValuesWithin sets proof
values_within sets vars names all (Optimum plan multipliers) listed is within = within
values_within sets vars names all (Refutation multipliers) listed is within = tt
values_within sets vars names all (Descent plan direction) listed is within =
    keys_within sets direction (subst (AllByRecursion (IsListedVariable sets)) (sym is.told.2.named) (all-kept (IsListedVariable sets) _ vars listed))

-- ---- over a data file with its changes

-- a scenario is known where the text is accepted and `check` accepts the proof over its data
pub kept : (show : CompareShow) (places gap : ℕ) (source : Source) (proof_bytes : List ℕ) (d : Data) (sets : SetLists) (accepted : AcceptedProof) (tables : List ℕ) → Accepted source d → sets ≡ d.sets
    → AcceptsOver show places gap d proof_bytes accepted tables → IsKept show places gap source proof_bytes sets accepted tables
kept show places gap source proof_bytes d sets accepted tables text same over =
    let judged : Judged = record { data_of = d; rows = over.made.rows; proof = accepted.proof; said = accepted.said.items } in
    record {
      judged = judged;
      is = record { accepted = text; made = over.made.made; are_rows = over.made.are_rows; told = over.told; checked = over.made.due };
      of = record { sets_are = same; proof_is = refl; said_is = refl; worth = over.worth };
      tabled = over.tabled;
    }

-- what `check` says of another is told after the line of its files
pub refused : (places gap : ℕ) (source : Source) (proof_bytes : List ℕ) (which : Which) (said_status : Status) (said : List ℕ) (status : Status) (text : List ℕ) → IsUnkept places gap source proof_bytes said_status said
    → status ≡ said_status → text ≡ files_line which ++ said → IsRefused places (CheckedBy places gap proof_bytes) source which status text
refused places gap source proof_bytes which said_status said status text unkept same text_is = record {
  said = said;
  due = subst (λ (s : Status). DueOfCheck places (CheckedBy places gap proof_bytes) source s said) (sym same) unkept.due;
  not_done = λ done. unkept.not_done (sym same ∙ done);
  text_is = text_is;
}
