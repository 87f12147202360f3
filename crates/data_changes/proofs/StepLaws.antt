-- The change of a record made, or why it isn't.
use Rattle.data_changes.proofs.Common.{◌≡◌, ◌∙◌, ◌+◌, [], Ok, ap, ap₂, arith, sym, cond, true, false, Bool, ℕ}
use Rattle.model_sets.specs.Members.{SetLists}
use Rattle.param_tables.specs.Built.{Built}
use Rattle.param_tables.specs.ChangeTold.{IsChangeFailDue}
use Rattle.param_tables.specs.Changes.{change_refusals, rounded_by, with_change}
use Rattle.param_tables.specs.InTurn.{first_of}
use Rattle.param_tables.specs.declared.fault.ChangeFail.{ChangeFail}
use Rattle.param_tables.specs.declared.fault.ChangeFail.TheVariants as change_fail
use Rattle.plan_files.specs.Files.{Fields}
use Rattle.data_changes.specs.Files.{after_change, with_told}
unfoldable use Rattle.data_changes.specs.Files.{after_record}
use Rattle.data_changes.specs.Records.{ToldChange, change_in}
use Rattle.data_changes.specs.Told.{IsRecordStopDue, stop_of}
use Rattle.data_changes.specs.declared.fault.RecordStop.{RecordStop}
use Rattle.data_changes.specs.declared.fault.RecordStop.TheVariants as stop

module _ (built : Built) (header r : Fields) where
  -- what stops the reading of the change stops the record
  pub stop_after : (sets : SetLists) (why : RecordStop) → IsRecordStopDue (change_in built.facts header r) sets why → IsRecordStopDue (after_record built header r) sets why
  unfolding after_record
  stop_after sets (stop.Fault fault) due = (ap (after_change built) due.0, due.1)
  stop_after sets stop.Memory due = tt

  module _ (told : ToldChange) (read : change_in built.facts header r ≡ Ok told) where
    by_told : after_record built header r ≡ with_told built told (first_of (change_refusals built.facts told.change))
    unfolding after_record
    by_told = ap (after_change built) read

    -- and so does a value that is refused
    pub fail_after : (sets : SetLists) (fail : ChangeFail) → IsChangeFailDue (first_of (change_refusals built.facts told.change)) sets fail → IsRecordStopDue (after_record built header r) sets (stop_of fail)
    fail_after sets (change_fail.Fault fault) due = (by_told ∙ ap (with_told built told) due.0, due.1)
    fail_after sets change_fail.Memory due = tt

    -- else the data are those with the change
    pub record_made : (next : Built) → change_refusals built.facts told.change ≡ [] → next.facts ≡ with_change built.facts told.change → next.rounded ≡ built.rounded + cond told.rounded 1 0 + rounded_by built.facts told.change → after_record built header r ≡ Ok next
    record_made next free facts rounded =
        by_told
        ∙ ap (λ refusals. with_told built told (first_of refusals)) free
        ∙ sym (ap₂ (λ f (n : ℕ). Ok (record { facts = f; rounded = n })) facts rounded)

-- with one number more that is rounded, and without
pub one_rounded : (a b : ℕ) (is_rounded : Bool) → is_rounded ≡ true → a + b + 1 ≡ a + cond is_rounded 1 0 + b
one_rounded a b is_rounded e = let more : a + b + 1 ≡ a + 1 + b = omega arith in more ∙ sym (ap (λ r. a + cond r 1 0 + b) e)

pub none_rounded : (a b : ℕ) (is_rounded : Bool) → is_rounded ≡ false → a + b ≡ a + cond is_rounded 1 0 + b
none_rounded a b is_rounded e = let same : a + b ≡ a + 0 + b = omega arith in same ∙ sym (ap (λ r. a + cond r 1 0 + b) e)
