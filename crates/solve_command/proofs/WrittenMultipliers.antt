-- The file of multipliers alone is read as those that aren't 0, whichever rows they are of.
use Rattle.solve_command.proofs.Common.{◌≡◌, Bool, List, [], ◌∷◌, map, inl, inr, refl, sym, ◌∙◌, subst, Contains, not, Rational, Frac, SetLists, RowName, Var, ascends, is_zero, keys_of, valued, nonzero}
use Rattle.std.specs.List.{AllByRecursion}
use Rattle.row_book.proofs.Lists.{all-from, all-has}
use Rattle.row_core.proofs.Members.{Contains-from_Has, Has, Has-from_Contains, Has-map}
use Rattle.row_core.proofs.Orders.{row_name_cmp_total}
use Rattle.row_core.specs.Order.{row_name_cmp}
use Rattle.plan_files.specs.Answers.{AreMultipliers, row_names}
use Rattle.plan_files.specs.Files.{Fields, records_of}
use Rattle.plan_files.specs.Listed.{IsListedRow}
use Rattle.plan_files.specs.Records.{header, row_fields, row_record}
use Rattle.plan_files.proofs.RoundTrip.{Apart, all_of, apart, as_written, right_kept, written_records}
use Rattle.plan_files.proofs.UniqueLaws.{same_row}
use Rattle.proof_files.specs.declared.proof.Proof.TheVariants.{Refutation}
use Rattle.proof_files.specs.ProofRecords.{refutation_file}
use Rattle.proof_files.specs.Proofs.{AreTold, IsProof, KeysAreNames, NamesAreListed}

-- the multiplier isn't 0
abbrev passes : RowName × Rational → Bool
passes e = not (is_zero e.1.top)

-- ---- what holds of each key holds of each entry

of-entries : (P : RowName → Type 0) (es : List (RowName × Frac)) → ((n : RowName) → Has (keys_of es) n → P n) → AllByRecursion (λ (e : RowName × Frac). P e.0) es
of-entries P [] each = tt
of-entries P (e ∷ es) each = (each e.0 (inl refl), of-entries P es (λ n h. each n (inr h)))

module _ (sets : SetLists) (vars : List Var) (names : List RowName) (listed : NamesAreListed sets vars names) (multipliers : List (RowName × Frac)) (keys : KeysAreNames names (keys_of multipliers)) where
  among : (n : RowName) → Has (keys_of multipliers) n → Has names n
  among n h = Has-from_Contains names n (keys.among n (Contains-from_Has (keys_of multipliers) n h))

  known : AllByRecursion (λ (e : RowName × Frac). Contains (row_names sets names) (row_fields sets e.0)) multipliers
  known =
      of-entries (λ n. Contains (row_names sets names) (row_fields sets n)) multipliers
      (λ n h. Contains-from_Has (row_names sets names) (row_fields sets n) (Has-map (row_fields sets) names n (among n h)))

  far : Apart (row_fields sets) multipliers
  far =
      apart (row_fields sets) row_name_cmp row_name_cmp_total (IsListedRow sets) (same_row sets listed.are_sets) multipliers keys.ascending
      (all-from (IsListedRow sets) (keys_of multipliers) (λ n h. all-has (IsListedRow sets) names n listed.listed_rows (among n h)))

  abbrev kept : List (RowName × Rational)
  kept = nonzero (map valued multipliers)

  abbrev rows : List Fields
  rows = map (row_record sets) kept

  whole : records_of (refutation_file sets (map valued multipliers)) ≡ header ∷ rows
  whole = written_records rows (as_written (row_record sets) (λ e. refl) kept)

  -- what is written of multipliers alone is written of a refutation too, which has a record of each of them
  pub multipliers-read : IsProof sets vars names (records_of (refutation_file sets (map valued multipliers))) (Refutation kept)
      → AreMultipliers sets names (records_of (refutation_file sets (map valued multipliers))) kept
  multipliers-read proof =
      let same : proof.rows ≡ rows = cc (sym proof.form.whole ∙ whole) in
      let told : AreTold (row_fields sets) rows names kept = subst (λ (rs : List Fields). AreTold (row_fields sets) rs names kept) same proof.told.1 in
      record {
        rows = rows;
        form = record {
          whole = whole;
          right = right_kept (row_fields sets) (row_record sets) (λ e. refl) passes (λ e. refl) (λ e. refl) (row_names sets names) [] multipliers known (all_of (λ e. refl) multipliers) far;
        };
        named = told.named;
        values = told.values;
      }
