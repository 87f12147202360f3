-- Records that were written are read again.
use Rattle.plan_files.proofs.Common.{◌≡◌, suc, Bool, true, false, List, [], ◌∷◌, ◌++◌, length, map, filter, Option, Some, None, refl, sym, ap, ap₂, ◌∙◌, subst, arith, if◌then◌else◌, Contains, is_some, IsTotalOrder, AllByRecursion, is_lt, Ordering, next_record, strip_bom, default_writer, read_back, row_text, Rational, value_of, Frac, ascends, keys_of, valued, Less-from_test, ascends-skip, ascends-tail, both_passed, fraction_text, AreGiven, AreRightAfter, Fields, GivesValue, HasValue, field, is_named_in, name_of, record_of, records_of, header, records_text}
use Rattle.std.specs.declared.cmp.Ordering.TheVariants.{Less}
use Rattle.csv.specs.declared.parser.State.TheVariants as st
use Rattle.csv.proofs.RoundTrip.{read-write}
use Rattle.plan_files.proofs.KeyLaws.{alike_itself, not_less}
use Rattle.plan_files.proofs.PrintedValue.{printed_value}
use Rattle.plan_files.proofs.RecordSteps.{first_of, left_records, none_left}
use Rattle.plan_files.proofs.TakenLaws.{other_fields, record_of-other, same_fields}

-- ---- the records of a text that was written

read_rows : (rows : List Fields) → AllByRecursion (λ r. read_back r ≡ r) rows → left_records st.StartRecord (records_text rows) ≡ rows
unfolding next_record
read_rows [] all = none_left st.StartRecord [] refl
read_rows (r ∷ rows) all =
    (first_of st.StartRecord (row_text default_writer r ++ records_text rows) (read_back r, st.StartRecord, records_text rows) refl (read-write r (records_text rows))).all
    ∙ ap₂ (λ (x : Fields) (xs : List Fields). x ∷ xs) all.0 (read_rows rows all.1)

unmarked : (rows : List Fields) → strip_bom (records_text (header ∷ rows)) ≡ records_text (header ∷ rows)
unfolding strip_bom
unmarked rows = refl

pub written_records : (rows : List Fields) → AllByRecursion (λ r. read_back r ≡ r) rows → records_of (records_text (header ∷ rows)) ≡ header ∷ rows
written_records rows all = ap (left_records st.StartRecord) (unmarked rows) ∙ read_rows (header ∷ rows) (refl, all)

-- ---- what holds of each of a list

pub all_map : {A : Type 0} {P Q : A → Type 0} → ((a : A) → P a → Q a) → (xs : List A) → AllByRecursion P xs → AllByRecursion Q xs
all_map each [] all = tt
all_map each (x ∷ xs) all = (each x all.0, all_map each xs all.1)

all_both : {A : Type 0} (P Q : A → Type 0) (xs : List A) → AllByRecursion P xs → AllByRecursion Q xs → AllByRecursion (λ a. P a × Q a) xs
all_both P Q [] all both = tt
all_both P Q (x ∷ xs) all both = ((all.0, both.0), all_both P Q xs all.1 both.1)

pub all_of : {A : Type 0} {P : A → Type 0} → ((a : A) → P a) → (xs : List A) → AllByRecursion P xs
all_of each [] = tt
all_of each (x ∷ xs) = (each x, all_of each xs)

-- records that are written as they are
pub as_written : {A : Type 0} (record_for : A → Fields) → ((a : A) → read_back (record_for a) ≡ record_for a) → (xs : List A) → AllByRecursion (λ r. read_back r ≡ r) (map record_for xs)
as_written record_for same [] = tt
as_written record_for same (x ∷ xs) = (same x, as_written record_for same xs)

contained_after : {A : Type 0} (x y : A) (xs : List A) → Contains xs x → Contains (y ∷ xs) x
contained_after x y xs c = (suc c.0, omega (arith, c.1), c.2)

-- ---- entries whose names differ

module _ {K : Type 0} (f : K → Fields) where
  abbrev pub Apart : List (K × Frac) → Type 0
  Apart [] = Unit {0}
  Apart (e ∷ es) = AllByRecursion (λ (d : K × Frac). ¬ (f d.0 ≡ f e.0)) es × Apart es

  module _ (cmp : K → K → Ordering) (total : IsTotalOrder cmp) (Listed : K → Type 0) (alone : (v w : K) → Listed v → Listed w → f v ≡ f w → v ≡ w) where
    later : (x : K) (es : List (K × Frac)) → ascends cmp (x ∷ keys_of es) ≡ true → AllByRecursion (λ (d : K × Frac). cmp x d.0 ≡ Less) es
    later x [] h = tt
    later x (e ∷ es) h = (Less-from_test (cmp x e.0) (both_passed (is_lt (cmp x e.0)) (ascends cmp (keys_of (e ∷ es))) h).0, later x es (ascends-skip cmp total x e.0 (keys_of es) h))

    listed_entries : (es : List (K × Frac)) → AllByRecursion Listed (keys_of es) → AllByRecursion (λ (d : K × Frac). Listed d.0) es
    listed_entries [] all = tt
    listed_entries (e ∷ es) all = (all.0, listed_entries es all.1)

    pub apart : (es : List (K × Frac)) → ascends cmp (keys_of es) ≡ true → AllByRecursion Listed (keys_of es) → Apart es
    apart [] h listed = tt
    apart (e ∷ es) h listed = (
      all_map (λ d both. λ same. clash d both.0 (alone d.0 e.0 both.1 listed.0 same)) es (all_both (λ (d : K × Frac). cmp e.0 d.0 ≡ Less) (λ (d : K × Frac). Listed d.0) es (later e.0 es h) (listed_entries es listed.1)),
      apart es (ascends-tail cmp e.0 (keys_of es) h) listed.1,
    )
      where
        clash : (d : K × Frac) → cmp e.0 d.0 ≡ Less → d.0 ≡ e.0 → ⊥
        clash d less same = not_less (sym less ∙ ap (cmp e.0) same ∙ alike_itself cmp total e.0)

  pub contained : (es : List (K × Frac)) → AllByRecursion (λ (e : K × Frac). Contains (map f (keys_of es)) (f e.0)) es
  contained [] = tt
  contained (e ∷ es) = ((0, omega arith, refl), all_map (λ d c. contained_after (f d.0) (f e.0) (map f (keys_of es)) c) es (contained es))

  module _ (record_for : K × Rational → Fields) (named : (e : K × Rational) → name_of (record_for e) ≡ f e.0) where
    -- ---- those records whose entries pass a test

    module _ (p : K × Rational → Bool) where
      abbrev kept : List (K × Frac) → List (K × Rational)
      kept es = filter p (map valued es)

      abbrev rows_of : List (K × Frac) → List Fields
      rows_of es = map record_for (kept es)

      abbrev kept_or : Bool → (e : K × Frac) → List (K × Rational) → List (K × Rational)
      kept_or b e xs = if b then valued e ∷ xs else xs

      -- a record of another name is passed over
      passed_over : (name : Fields) (e : K × Frac) (es : List (K × Frac)) → ¬ (name ≡ f e.0) → record_of (rows_of (e ∷ es)) name ≡ record_of (rows_of es) name
      passed_over name e es other = by_test (p (valued e))
        where
          by_test : (b : Bool) → record_of (map record_for (kept_or b e (kept es))) name ≡ record_of (rows_of es) name
          by_test true = ap (λ b. if b then Some (record_for (valued e)) else record_of (rows_of es) name) (other_fields name (name_of (record_for (valued e))) (λ same. other (same ∙ named (valued e))))
          by_test false = refl

      pub absent : (name : Fields) (es : List (K × Frac)) → AllByRecursion (λ (d : K × Frac). ¬ (f d.0 ≡ name)) es → record_of (rows_of es) name ≡ None
      absent name [] all = refl
      absent name (e ∷ es) all = passed_over name e es (λ same. all.0 (sym same)) ∙ absent name es all.1

      abbrev own_record : K × Frac → Option Fields
      own_record e = if p (valued e) then Some (record_for (valued e)) else None

      pub own : (es : List (K × Frac)) → Apart es → AllByRecursion (λ (e : K × Frac). record_of (rows_of es) (f e.0) ≡ own_record e) es
      own [] far = tt
      own (e ∷ es) far =
          (by_test (p (valued e)), all_map (λ d both. passed_over (f d.0) e es both.1 ∙ both.0) es (all_both (λ (d : K × Frac). record_of (rows_of es) (f d.0) ≡ own_record d) (λ (d : K × Frac). ¬ (f d.0 ≡ f e.0)) es (own es far.1) far.0))
        where
          by_test : (b : Bool) → record_of (map record_for (kept_or b e (kept es))) (f e.0) ≡ (if b then Some (record_for (valued e)) else None)
          by_test true = ap (λ b. if b then Some (record_for (valued e)) else record_of (rows_of es) (f e.0)) ((same_fields (f e.0) (name_of (record_for (valued e)))).1 (sym (named (valued e))))
          by_test false = absent (f e.0) es far.0

      -- each record that was written is right
      pub right_kept : ((e : K × Rational) → length (record_for e) ≡ 10) → ((e : K × Rational) → field (record_for e) 9 ≡ fraction_text e.1) → (names earlier : List Fields) (es : List (K × Frac))
          → AllByRecursion (λ (e : K × Frac). Contains names (f e.0)) es → AllByRecursion (λ (e : K × Frac). record_of earlier (f e.0) ≡ None) es → Apart es → AreRightAfter names earlier (rows_of es)
      right_kept ten text names earlier [] known fresh far = tt
      right_kept ten text names earlier (e ∷ es) known fresh far =
          by_test (p (valued e))
          (right_kept ten text names (earlier ++ record_for (valued e) ∷ []) es known.1
          (all_map (λ d both. record_of-other earlier (record_for (valued e)) (f d.0) (λ same. both.1 (same ∙ named (valued e))) ∙ both.0) es (all_both (λ (d : K × Frac). record_of earlier (f d.0) ≡ None) (λ (d : K × Frac). ¬ (f d.0 ≡ f e.0)) es fresh.1 far.0)) far.1)
          (right_kept ten text names earlier es known.1 fresh.1 far.1)
        where
          by_test : (b : Bool) → AreRightAfter names (earlier ++ record_for (valued e) ∷ []) (rows_of es) → AreRightAfter names earlier (rows_of es) → AreRightAfter names earlier (map record_for (kept_or b e (kept es)))
          by_test true following skipped = (
            record {
              ten = ten (valued e);
              known = subst (Contains names) (sym (named (valued e))) known.0;
              once = ap (is_named_in earlier) (named (valued e)) ∙ ap is_some fresh.0;
              value = value_of e.1;
              exact = subst (λ t. HasValue t (value_of e.1)) (sym (text (valued e))) (printed_value e.1);
            },
            following,
          )
          by_test false following skipped = skipped

      pub given : ((e : K × Rational) → field (record_for e) 9 ≡ fraction_text e.1) → (rows : List Fields) (es : List (K × Frac)) → AllByRecursion (λ (e : K × Frac). record_of rows (f e.0) ≡ own_record e) es → AreGiven f rows (kept es)
      given text rows [] all = tt
      given text rows (e ∷ es) all = by_test (p (valued e)) all.0 (given text rows es all.1)
        where
          by_test : (b : Bool) → record_of rows (f e.0) ≡ (if b then Some (record_for (valued e)) else None) → AreGiven f rows (kept es) → AreGiven f rows (kept_or b e (kept es))
          by_test true found others =
              (subst (λ o. GivesValue o (Some (value_of e.1))) (sym found) (value_of e.1, refl, subst (λ t. HasValue t (value_of e.1)) (sym (text (valued e))) (printed_value e.1)), others)
          by_test false found others = others

      pub keys_kept : (rows : List Fields) (es : List (K × Frac)) → AllByRecursion (λ (e : K × Frac). record_of rows (f e.0) ≡ own_record e) es → keys_of (kept es) ≡ filter (λ k. is_named_in rows (f k)) (keys_of es)
      keys_kept rows [] all = refl
      keys_kept rows (e ∷ es) all = by_test (p (valued e)) all.0 (keys_kept rows es all.1)
        where
          by_test : (b : Bool) → record_of rows (f e.0) ≡ (if b then Some (record_for (valued e)) else None) → keys_of (kept es) ≡ filter (λ k. is_named_in rows (f k)) (keys_of es) → keys_of (kept_or b e (kept es)) ≡ (if is_named_in rows (f e.0) then e.0 ∷ filter (λ k. is_named_in rows (f k)) (keys_of es) else filter (λ k. is_named_in rows (f k)) (keys_of es))
          by_test true found others =
              ap (λ ks. e.0 ∷ ks) others
              ∙ sym (ap (λ o. if is_some o then e.0 ∷ filter (λ k. is_named_in rows (f k)) (keys_of es) else filter (λ k. is_named_in rows (f k)) (keys_of es)) found)
          by_test false found others =
              others
              ∙ sym (ap (λ o. if is_some o then e.0 ∷ filter (λ k. is_named_in rows (f k)) (keys_of es) else filter (λ k. is_named_in rows (f k)) (keys_of es)) found)
