-- The change of a record, rule by rule.
use Rattle.data_changes.proofs.Common.{◌≡◌, ◌≢◌, ◌∙◌, true, false, cond, ℕ, Option, None, Some, Result, Err, ap, codes, eq-eqb, length, ne_eqb, not}
use Rattle.std.specs.Prelude.{if◌then◌else◌}
use Rattle.model_sets.specs.Data.{Data}
use Rattle.plan_files.specs.Files.{Fields}
use Rattle.data_changes.specs.Columns.{field_in, has_stray}
use Rattle.data_changes.specs.Faults.{BadRecord, RecordFault, UnknownName}
use Rattle.data_changes.specs.Records.{ToldChange, change_of, or_fault, used_number}
unfoldable use Rattle.data_changes.specs.Records.{change_in}

module _ (d : Data) (header r : Fields) where
  abbrev of_param : ℕ → Result ToldChange RecordFault
  of_param param = if has_stray header r param then Err BadRecord else change_of d.sets header r param

  abbrev of_name : Option ℕ → Result ToldChange RecordFault
  of_name number = or_fault UnknownName number of_param

  abbrev number : Option ℕ
  number = used_number d.second (field_in header r (codes "NAME"))

  pub change_long : length r ≢ length header → change_in d header r ≡ Err BadRecord
  unfolding change_in
  change_long other = ap (λ b. cond (not b) (Err BadRecord) (of_name number)) (ne_eqb (length r) (length header) other)

  module _ (same : length r ≡ length header) where
    by_name : change_in d header r ≡ of_name number
    unfolding change_in
    by_name = ap (λ b. cond (not b) (Err BadRecord) (of_name number)) (eq-eqb (length r) (length header) same)

    pub change_unnamed : number ≡ None → change_in d header r ≡ Err UnknownName
    change_unnamed none = by_name ∙ ap of_name none

    module _ (param : ℕ) (named : number ≡ Some param) where
      pub change_stray : has_stray header r param ≡ true → change_in d header r ≡ Err BadRecord
      change_stray stray = by_name ∙ ap of_name named ∙ ap (λ b. cond b (Err BadRecord) (change_of d.sets header r param)) stray

      pub change_named : has_stray header r param ≡ false → change_in d header r ≡ change_of d.sets header r param
      change_named own = by_name ∙ ap of_name named ∙ ap (λ b. cond b (Err BadRecord) (change_of d.sets header r param)) own
