-- The changes of a file, record by record.
use Rattle.data_changes.proofs.Common.{◌≡◌, ◌∙◌, ◌+◌, true, false, List, [], ◌∷◌, Err, Ok, ap, cond, refl, sym, subst, ℕ}
use Rattle.std.specs.Borrow.{Bor}
use Rattle.csv.specs.declared.reader.Reader.{Reader}
use Rattle.model_sets.specs.Members.{SetLists}
use Rattle.param_tables.specs.Built.{Built}
use Rattle.plan_files.specs.Files.{Fields, records_of}
use Rattle.plan_files.specs.Reading.{HasLeft, IsNext}
use Rattle.data_changes.specs.Columns.{is_header}
use Rattle.data_changes.specs.Faults.{BadHeader}
use Rattle.data_changes.specs.Files.{after_all, go_on}
unfoldable use Rattle.data_changes.specs.Files.{after_file, after_record, after_records}
use Rattle.data_changes.specs.Told.{IsChangesFailDue, IsRecordStopDue, fail_of}
use Rattle.data_changes.specs.declared.fault.RecordStop.{RecordStop}
use Rattle.data_changes.specs.declared.fault.RecordStop.TheVariants as stop

-- the records of a text that are left after the one with the number before this are those that the reader has left; what they make of the data is what the file makes
pub record IsSoFar (old : Built) (text : List ℕ) (header : Fields) (number : ℕ) (now : Built) (reader : Reader (Bor (List ℕ))) : Type 0 where
  pub later : List Fields
  pub left : HasLeft reader later
  pub same : after_file old text ≡ after_records now header number later
  pub sets : now.facts.sets ≡ old.facts.sets

module _ (old : Built) (text : List ℕ) where
  -- a text without a record, and one of which the first record is no header
  pub no_header : records_of text ≡ [] → after_file old text ≡ Err (record { number = 1; fault = BadHeader })
  unfolding after_file
  no_header none = ap (after_all old) none

  pub bad_header : (r : Fields) (later : List Fields) → records_of text ≡ r ∷ later → is_header r ≡ false → after_file old text ≡ Err (record { number = 1; fault = BadHeader })
  unfolding after_file
  bad_header r later rows is = ap (after_all old) rows ∙ ap (λ b. cond b (after_records old r 2 later) (Err (record { number = 1; fault = BadHeader }))) is

  -- the first record is read
  pub begun : (header : Fields) (r : Fields) (reader : Reader (Bor (List ℕ))) → header ≡ r → is_header header ≡ true → IsNext reader (records_of text) true r → IsSoFar old text header 2 old reader
  unfolding after_file
  begun header r reader one is next = record {
    later = next.0;
    left = next.2;
    same = ap (after_all old) (next.1 ∙ ap (λ h. h ∷ next.0) (sym one)) ∙ ap (λ b. cond b (after_records old header 2 next.0) (Err (record { number = 1; fault = BadHeader }))) is;
    sets = refl;
  }

  module _ (header : Fields) (number : ℕ) (now : Built) (before reader : Reader (Bor (List ℕ))) (far : IsSoFar old text header number now before) (r : Fields) where
    -- no record is left
    pub all_made : IsNext reader far.later false r → after_file old text ≡ Ok now
    unfolding after_records
    all_made none = far.same ∙ ap (after_records now header number) none

    module _ (next : IsNext reader far.later true r) where
      one_more : after_file old text ≡ go_on number (λ made. after_records made header (number + 1) next.0) (after_record now header r)
      unfolding after_records
      one_more = far.same ∙ ap (after_records now header number) next.1

      pub made_more : (made : Built) → after_record now header r ≡ Ok made → made.facts.sets ≡ now.facts.sets → IsSoFar old text header (number + 1) made reader
      made_more made is sets = record {
        later = next.0;
        left = next.2;
        same = one_more ∙ ap (go_on number (λ made. after_records made header (number + 1) next.0)) is;
        sets = sets ∙ far.sets;
      }

      pub stopped : (why : RecordStop) → IsRecordStopDue (after_record now header r) now.facts.sets why → IsChangesFailDue (after_file old text) old.facts.sets (fail_of number why)
      stopped (stop.Fault fault) due =
          let there = subst (λ (lists : SetLists). IsRecordStopDue (after_record now header r) lists (stop.Fault fault)) far.sets due in
          (one_more ∙ ap (go_on number (λ made. after_records made header (number + 1) next.0)) there.0, there.1)
      stopped stop.Memory due = tt
