-- Complete data stay complete by changes that aren't refused, and their sets stay as they are.
use Rattle.data_changes.proofs.Common.{◌≡◌, ℕ, ◌+◌, Bool, true, false, cond, List, [], ◌∷◌, None, Some, Option, Ok, Err, Result, refl, subst}
use Rattle.model_sets.specs.Data.{Data}
use Rattle.param_tables.specs.Built.{Built}
use Rattle.param_tables.specs.Changes.{Change, change_refusals, with_change}
use Rattle.param_tables.specs.InTurn.{first_of}
use Rattle.param_tables.specs.Refusals.{Refusal}
use Rattle.plan_files.specs.Files.{Fields, records_of}
use Rattle.data_changes.specs.Columns.{is_header}
use Rattle.data_changes.specs.Faults.{BadHeader, ChangesFault, RecordFault}
unfoldable use Rattle.data_changes.specs.Files.{after_file, after_record, after_records}
use Rattle.data_changes.specs.Files.{after_all, after_change, go_on, with_told}
use Rattle.data_changes.specs.Records.{ToldChange}
unfoldable use Rattle.data_changes.specs.Records.{change_in}

none_first : {A : Type 0} (xs : List A) → first_of xs ≡ None → xs ≡ []
none_first [] none = refl
none_first (x ∷ xs) none = absurd (cc none)

one_ok : {A E : Type 0} (r : Result A E) (x y : A) → r ≡ Ok x → r ≡ Ok y → x ≡ y
one_ok r x y e f = cc (e, f)

-- what a change that is accepted keeps
abbrev pub Keeps : (Data → Type 0) → Type 0
Keeps P = (d : Data) (change : Change) → P d → change_refusals d change ≡ [] → P (with_change d change)

module _ (P : Data → Type 0) (keeps : Keeps P) where
  told_keeps : (built next : Built) (told : ToldChange) (refusal : Option Refusal) → first_of (change_refusals built.facts told.change) ≡ refusal → P built.facts → with_told built told refusal ≡ Ok next → P next.facts
  told_keeps built next told (Some refusal) first own e = absurd (cc e)
  told_keeps built next told None first own e =
      let new = keeps built.facts told.change own (none_first (change_refusals built.facts told.change) first) in
      subst (λ (n : Built). P n.facts) (one_ok (with_told built told None) _ next refl e) new

  change_keeps : (built next : Built) (change : Result ToldChange RecordFault) → P built.facts → after_change built change ≡ Ok next → P next.facts
  change_keeps built next (Err fault) own e = absurd (cc e)
  change_keeps built next (Ok told) own e = told_keeps built next told (first_of (change_refusals built.facts told.change)) refl own e

  record_keeps : (built : Built) (header : Fields) (r : Fields) (number : ℕ) (make : Built → Result Built ChangesFault) (next : Built) → P built.facts → ((one : Built) → P one.facts → make one ≡ Ok next → P next.facts)
      → (after : Result Built RecordFault) → after_record built header r ≡ after → go_on number make after ≡ Ok next → P next.facts
  unfolding after_record
  record_keeps built header r number make next own rest (Ok one) is e = rest one (change_keeps built one (change_in built.facts header r) own is) e
  record_keeps built header r number make next own rest (Err fault) is e = absurd (cc e)

  records_keep : (built next : Built) (header : Fields) (number : ℕ) (rows : List Fields) → P built.facts → after_records built header number rows ≡ Ok next → P next.facts
  unfolding after_records
  records_keep built next header number [] own e = subst (λ (n : Built). P n.facts) (one_ok _ built next refl e) own
  records_keep built next header number (r ∷ rows) own e =
      record_keeps built header r number (λ n. after_records n header (number + 1) rows) next own (λ one kept more. records_keep one next header (number + 1) rows kept more) (after_record built header r) refl e

  pub file_keeps : (built next : Built) (text : List ℕ) → P built.facts → after_file built text ≡ Ok next → P next.facts
  unfolding after_file
  file_keeps built next text own e = go (records_of text) e
    where
      go : (rows : List Fields) → after_all built rows ≡ Ok next → P next.facts
      go [] e = absurd (cc e)
      go (header ∷ rows) e = by (is_header header) e
        where
          by : (b : Bool) → cond b (after_records built header 2 rows) (Err (record { number = 1; fault = BadHeader })) ≡ Ok next → P next.facts
          by true e = records_keep built next header 2 rows own e
          by false e = absurd (cc e)

-- the sets are those of the data file
pub all_sets : (built next : Built) (text : List ℕ) → after_file built text ≡ Ok next → next.facts.sets ≡ built.facts.sets
all_sets built next text e = file_keeps (λ d. d.sets ≡ built.facts.sets) (λ d change same free. same) built next text refl e
