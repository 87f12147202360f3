-- Records of plan, multipliers and direction that were written are read again.
use Rattle.proof_files.proofs.Common.{◌≡◌, Bool, true, false, ◌&&◌, List, [], ◌∷◌, ◌++◌, length, map, filter, Some, None, inl, inr, refl, sym, ap, ap₂, ◌∙◌, subst, if◌then◌else◌, Contains, is_some, not, AllByRecursion, is_lt, Ordering, read_back, Rational, value_of, Frac, SetLists, RowName, Var, ascends, is_zero, keys_of, row_name_cmp, var_cmp, valued, ascends-skip, ascends-tail, both_passed, Contains-from_Has, Has, Has-append_left, Has-append_right, Has-from_Contains, row_name_cmp_exact, row_name_cmp_total, var_cmp_exact, var_cmp_total, fraction_text, AreGiven, IsInForm, row_names, variable_names, AreRight, Fields, GivesValue, HasValue, field, is_named_in, name_of, record_of, records_of, IsListedRow, IsListedVariable, header, nonzero, row_fields, row_record, variable_fields, variable_record, records_text, same_row, same_variable, direction_fields, direction_names, direction_record, proof_names, KeysAreNames, NamesAreListed, named_of}
use Rattle.plan_files.proofs.PrintedValue.{printed_value}
use Rattle.plan_files.proofs.RoundTrip.{Apart, absent, all_map, all_of, apart, as_written, own, right_kept, written_records}
use Rattle.proof_files.proofs.NameLaws.{row_no_direction, same_direction, variable_no_direction, variable_no_row}
use Rattle.proof_files.proofs.SubLists.{has_or_not, kept_are}

-- ---- what holds of each of a list

every : {A : Type 0} (xs : List A) → filter (λ _. true) xs ≡ xs
every [] = refl
every (x ∷ xs) = ap (λ ys. x ∷ ys) (every xs)

all_append : {A : Type 0} (P : A → Type 0) (xs ys : List A) → AllByRecursion P xs → AllByRecursion P ys → AllByRecursion P (xs ++ ys)
all_append P [] ys all later = later
all_append P (x ∷ xs) ys all later = (all.0, all_append P xs ys all.1 later)

all_left : {A : Type 0} (P : A → Type 0) (xs ys : List A) → AllByRecursion P (xs ++ ys) → AllByRecursion P xs
all_left P [] ys all = tt
all_left P (x ∷ xs) ys all = (all.0, all_left P xs ys all.1)

all_right : {A : Type 0} (P : A → Type 0) (xs ys : List A) → AllByRecursion P (xs ++ ys) → AllByRecursion P ys
all_right P [] ys all = all
all_right P (x ∷ xs) ys all = all_right P xs ys all.1

all_has : {A : Type 0} (P : A → Type 0) (xs : List A) → AllByRecursion P xs → (x : A) → Has xs x → P x
all_has P [] all x h = absurd h
all_has P (y ∷ ys) all x (inl e) = subst P e all.0
all_has P (y ∷ ys) all x (inr h) = all_has P ys all.1 x h

has_map : {A B : Type 0} (f : A → B) (xs : List A) (x : A) → Has xs x → Has (map f xs) (f x)
has_map f [] x h = absurd h
has_map f (y ∷ ys) x (inl e) = inl (ap f e)
has_map f (y ∷ ys) x (inr h) = inr (has_map f ys x h)

-- of each entry what holds of each key
by_keys : {K : Type 0} (P : K → Type 0) (es : List (K × Frac)) → ((k : K) → Has (keys_of es) k → P k) → AllByRecursion (λ (e : K × Frac). P e.0) es
by_keys P [] each = tt
by_keys P (e ∷ es) each = (each e.0 (inl refl), by_keys P es (λ k h. each k (inr h)))

-- ---- what a record of a proof is of

pub data Key : Type 0 where
  of_variable : Var → Key
  of_row : RowName → Key
  of_direction : Var → Key

apart_append : (f : Key → Fields) (xs ys : List (Key × Frac)) → Apart f xs → Apart f ys → AllByRecursion (λ (a : Key × Frac). AllByRecursion (λ (b : Key × Frac). ¬ (f b.0 ≡ f a.0)) ys) xs → Apart f (xs ++ ys)
apart_append f [] ys far later cross = later
apart_append f (x ∷ xs) ys far later cross = (all_append (λ (d : Key × Frac). ¬ (f d.0 ≡ f x.0)) xs ys far.0 cross.0, apart_append f xs ys far.1 later cross.1)

module _ (sets : SetLists) where
  abbrev pub key_fields : Key → Fields
  key_fields (of_variable v) = variable_fields sets v
  key_fields (of_row n) = row_fields sets n
  key_fields (of_direction v) = direction_fields sets v

  abbrev pub key_record : Key × Rational → Fields
  key_record e = key_fields e.0 ++ fraction_text e.1 ∷ []

  key_named : (k : Key) (x : Rational) → name_of (key_record (k, x)) ≡ key_fields k
  key_named (of_variable v) x = refl
  key_named (of_row n) x = refl
  key_named (of_direction v) x = refl

  key_ten : (k : Key) (x : Rational) → length (key_record (k, x)) ≡ 10
  key_ten (of_variable v) x = refl
  key_ten (of_row n) x = refl
  key_ten (of_direction v) x = refl

  key_text : (k : Key) (x : Rational) → field (key_record (k, x)) 9 ≡ fraction_text x
  key_text (of_variable v) x = refl
  key_text (of_row n) x = refl
  key_text (of_direction v) x = refl

  key_back : (k : Key) (x : Rational) → read_back (key_record (k, x)) ≡ key_record (k, x)
  key_back (of_variable v) x = refl
  key_back (of_row n) x = refl
  key_back (of_direction v) x = refl

  -- ---- entries of one sort

  module _ {K : Type 0} (g : K → Key) where
    abbrev pub injected : List (K × Frac) → List (Key × Frac)
    injected es = map (λ (e : K × Frac). (g e.0, e.1)) es

    all_injected : (P : Key × Frac → Type 0) (es : List (K × Frac)) → AllByRecursion (λ (e : K × Frac). P (g e.0, e.1)) es → AllByRecursion P (injected es)
    all_injected P [] all = tt
    all_injected P (e ∷ es) all = (all.0, all_injected P es all.1)

    apart_injected : (es : List (K × Frac)) → Apart (λ k. key_fields (g k)) es → Apart key_fields (injected es)
    apart_injected [] far = tt
    apart_injected (e ∷ es) far = (all_injected (λ (d : Key × Frac). ¬ (key_fields d.0 ≡ key_fields (g e.0))) es far.0, apart_injected es far.1)

    records_injected : (es : List (K × Frac)) → map key_record (map valued (injected es)) ≡ map (λ (e : K × Rational). key_record (g e.0, e.1)) (map valued es)
    records_injected [] = refl
    records_injected (e ∷ es) = ap (λ rs. key_record (g e.0, value_of e.1) ∷ rs) (records_injected es)

    -- each has its own record
    abbrev AreOwn : List Fields → List (K × Frac) → Type 0
    AreOwn rows es = AllByRecursion (λ (e : Key × Frac). record_of rows (key_fields e.0) ≡ Some (key_record (valued e))) (injected es)

    own_given : (rows : List Fields) (es : List (K × Frac)) → AreOwn rows es → AreGiven (λ k. key_fields (g k)) rows (map valued es)
    own_given rows [] all = tt
    own_given rows (e ∷ es) all = (
      subst (λ o. GivesValue o (Some (value_of e.1))) (sym all.0)
          (value_of e.1, refl, subst (λ t. HasValue t (value_of e.1)) (sym (key_text (g e.0) (value_of e.1))) (printed_value e.1)),
      own_given rows es all.1,
    )

    own_named : (rows : List Fields) (es : List (K × Frac)) → AreOwn rows es → (k : K) → Has (keys_of es) k → is_named_in rows (key_fields (g k)) ≡ true
    own_named rows [] all k h = absurd h
    own_named rows (e ∷ es) all k (inl same) = subst (λ x. is_named_in rows (key_fields (g x)) ≡ true) same (ap is_some all.0)
    own_named rows (e ∷ es) all k (inr h) = own_named rows es all.1 k h

  -- entries of two sorts have different names
  across : {J K : Type 0} (f : J → Key) (g : K → Key) (xs : List (J × Frac)) (ys : List (K × Frac)) → ((j : J) (k : K) → Has (keys_of xs) j → Has (keys_of ys) k → key_fields (g k) ≡ key_fields (f j) → ⊥)
      → AllByRecursion (λ (a : Key × Frac). AllByRecursion (λ (b : Key × Frac). ¬ (key_fields b.0 ≡ key_fields a.0)) (injected g ys)) (injected f xs)
  across {J} {K} f g xs ys never =
      all_injected f (λ (a : Key × Frac). AllByRecursion (λ (b : Key × Frac). ¬ (key_fields b.0 ≡ key_fields a.0)) (injected g ys)) xs
      (by_keys (λ j. AllByRecursion (λ (b : Key × Frac). ¬ (key_fields b.0 ≡ key_fields (f j))) (injected g ys)) xs
      (λ j in_xs. all_injected g (λ (b : Key × Frac). ¬ (key_fields b.0 ≡ key_fields (f j))) ys (by_keys (λ k. ¬ (key_fields (g k) ≡ key_fields (f j))) ys (λ k in_ys. never j k in_xs in_ys))))

-- some of the keys, in their order
pub record AreSome {K : Type 0} (cmp : K → K → Ordering) (keys some : List K) : Type 0 where
  pub ascending : ascends cmp some ≡ true
  pub among : (k : K) → Has some k → Has keys k

pub none_of : {K : Type 0} (cmp : K → K → Ordering) (keys : List K) → AreSome cmp keys []
none_of cmp keys = record { ascending = refl; among = λ k h. absurd h }

pub all_of_them : {K : Type 0} (cmp : K → K → Ordering) (keys some : List K) → ascends cmp keys ≡ true → some ≡ keys → AreSome cmp keys some
all_of_them cmp keys some up is = record { ascending = ap (ascends cmp) is ∙ up; among = λ k h. subst (λ ks. Has ks k) is h }

-- ---- the records of plan, multipliers and direction

module _ (sets : SetLists) (vars : List Var) (names : List RowName) (listed : NamesAreListed sets vars names)
    (plan : List (Var × Frac)) (multipliers : List (RowName × Frac)) (direction : List (Var × Frac))
    (plan_keys : AreSome var_cmp vars (keys_of plan)) (row_keys : AreSome row_name_cmp names (keys_of multipliers)) (direction_keys : AreSome var_cmp vars (keys_of direction)) where
  abbrev later_entries : List (Key × Frac)
  later_entries = injected sets of_row multipliers ++ injected sets of_direction direction

  abbrev entries : List (Key × Frac)
  entries = injected sets of_variable plan ++ later_entries

  abbrev pub rows : List Fields
  rows = map (key_record sets) (map valued entries)

  variable_listed : (v : Var) → Has vars v → IsListedVariable sets v
  variable_listed v h = all_has (IsListedVariable sets) vars listed.listed_vars v h

  row_listed : (n : RowName) → Has names n → IsListedRow sets n
  row_listed n h = all_has (IsListedRow sets) names listed.listed_rows n h

  abbrev keyed : {K : Type 0} → (K → Type 0) → List (K × Frac) → Type 0
  keyed P es = AllByRecursion P (keys_of es)

  of_keys : {K : Type 0} (P : K → Type 0) (keys : List K) → ((k : K) → Has keys k → P k) → AllByRecursion P keys
  of_keys P [] each = tt
  of_keys P (k ∷ keys) each = (each k (inl refl), of_keys P keys (λ x h. each x (inr h)))

  plan_listed : keyed (IsListedVariable sets) plan
  plan_listed = of_keys (IsListedVariable sets) (keys_of plan) (λ v h. variable_listed v (plan_keys.among v h))

  direction_listed : keyed (IsListedVariable sets) direction
  direction_listed = of_keys (IsListedVariable sets) (keys_of direction) (λ v h. variable_listed v (direction_keys.among v h))

  rows_listed : keyed (IsListedRow sets) multipliers
  rows_listed = of_keys (IsListedRow sets) (keys_of multipliers) (λ n h. row_listed n (row_keys.among n h))

  far_plan : Apart (key_fields sets) (injected sets of_variable plan)
  far_plan = apart_injected sets of_variable plan (apart (variable_fields sets) var_cmp var_cmp_total (IsListedVariable sets) (same_variable sets listed.are_sets) plan plan_keys.ascending plan_listed)

  far_rows : Apart (key_fields sets) (injected sets of_row multipliers)
  far_rows = apart_injected sets of_row multipliers (apart (row_fields sets) row_name_cmp row_name_cmp_total (IsListedRow sets) (same_row sets listed.are_sets) multipliers row_keys.ascending rows_listed)

  far_direction : Apart (key_fields sets) (injected sets of_direction direction)
  far_direction = apart_injected sets of_direction direction (apart (direction_fields sets) var_cmp var_cmp_total (IsListedVariable sets) (same_direction sets listed.are_sets) direction direction_keys.ascending direction_listed)

  far_later : Apart (key_fields sets) later_entries
  far_later =
      apart_append (key_fields sets) (injected sets of_row multipliers) (injected sets of_direction direction) far_rows far_direction
      (across sets of_row of_direction multipliers direction (λ n v in_rows in_direction same. row_no_direction sets n v (row_listed n (row_keys.among n in_rows)) (sym same)))

  -- two facts of each of a list
  both_all : {A : Type 0} (P Q : A → Type 0) (xs : List A) → AllByRecursion P xs → AllByRecursion Q xs → AllByRecursion (λ x. P x × Q x) xs
  both_all P Q [] all both = tt
  both_all P Q (x ∷ xs) all both = ((all.0, both.0), both_all P Q xs all.1 both.1)

  far : Apart (key_fields sets) entries
  far =
      apart_append (key_fields sets) (injected sets of_variable plan) later_entries far_plan far_later
      (all_map (λ (a : Key × Frac) both. all_append (λ (b : Key × Frac). ¬ (key_fields sets b.0 ≡ key_fields sets a.0)) (injected sets of_row multipliers) (injected sets of_direction direction) both.0 both.1) (injected sets of_variable plan)
      (both_all (λ (a : Key × Frac). AllByRecursion (λ (b : Key × Frac). ¬ (key_fields sets b.0 ≡ key_fields sets a.0)) (injected sets of_row multipliers))
      (λ (a : Key × Frac). AllByRecursion (λ (b : Key × Frac). ¬ (key_fields sets b.0 ≡ key_fields sets a.0)) (injected sets of_direction direction)) (injected sets of_variable plan)
      (across sets of_variable of_row plan multipliers (λ v n in_plan in_rows same. variable_no_row sets v n (variable_listed v (plan_keys.among v in_plan)) (row_listed n (row_keys.among n in_rows)) (sym same)))
      (across sets of_variable of_direction plan direction (λ v w in_plan in_direction same. variable_no_direction sets v w (variable_listed v (plan_keys.among v in_plan)) (sym same)))))

  -- ---- in form

  abbrev all_names : List Fields
  all_names = proof_names sets vars names

  abbrev first_names : List Fields
  first_names = variable_names sets vars ++ row_names sets names

  abbrev Known : Key × Frac → Type 0
  Known e = Contains all_names (key_fields sets e.0)

  knowns : AllByRecursion Known entries
  knowns =
      all_append Known (injected sets of_variable plan) later_entries
      (all_injected sets of_variable Known plan (by_keys (λ v. Contains all_names (variable_fields sets v)) plan
      (λ v h. Contains-from_Has all_names (variable_fields sets v) (Has-append_left first_names (direction_names sets vars) (variable_fields sets v) (Has-append_left (variable_names sets vars) (row_names sets names) (variable_fields sets v) (has_map (variable_fields sets) vars v (plan_keys.among v h)))))))
      (all_append Known (injected sets of_row multipliers) (injected sets of_direction direction)
      (all_injected sets of_row Known multipliers (by_keys (λ n. Contains all_names (row_fields sets n)) multipliers
      (λ n h. Contains-from_Has all_names (row_fields sets n) (Has-append_left first_names (direction_names sets vars) (row_fields sets n) (Has-append_right (variable_names sets vars) (row_names sets names) (row_fields sets n) (has_map (row_fields sets) names n (row_keys.among n h)))))))
      (all_injected sets of_direction Known direction (by_keys (λ v. Contains all_names (direction_fields sets v)) direction
      (λ v h. Contains-from_Has all_names (direction_fields sets v) (Has-append_right first_names (direction_names sets vars) (direction_fields sets v) (has_map (direction_fields sets) vars v (direction_keys.among v h)))))))

  right : AreRight (proof_names sets vars names) rows
  right =
      subst (λ es. AreRight (proof_names sets vars names) (map (key_record sets) es)) (every (map valued entries))
      (right_kept (key_fields sets) (key_record sets) (λ e. key_named sets e.0 e.1) (λ _. true) (λ e. key_ten sets e.0 e.1) (λ e. key_text sets e.0 e.1) (proof_names sets vars names) [] entries knowns (all_of (λ e. refl) entries) far)

  pub written_form : IsInForm (proof_names sets vars names) (records_of (records_text (header ∷ rows))) rows
  written_form = record { whole = written_records rows (as_written (key_record sets) (λ e. key_back sets e.0 e.1) (map valued entries)); right = right }

  -- ---- what they give

  owns : AllByRecursion (λ (e : Key × Frac). record_of rows (key_fields sets e.0) ≡ Some (key_record sets (valued e))) entries
  owns =
      subst (λ es. AllByRecursion (λ (e : Key × Frac). record_of (map (key_record sets) es) (key_fields sets e.0) ≡ Some (key_record sets (valued e))) entries) (every (map valued entries))
      (own (key_fields sets) (key_record sets) (λ e. key_named sets e.0 e.1) (λ _. true) entries far)

  abbrev Own : Key × Frac → Type 0
  Own e = record_of rows (key_fields sets e.0) ≡ Some (key_record sets (valued e))

  plan_own : AreOwn sets of_variable rows plan
  plan_own = all_left Own (injected sets of_variable plan) later_entries owns

  rows_own : AreOwn sets of_row rows multipliers
  rows_own = all_left Own (injected sets of_row multipliers) (injected sets of_direction direction) (all_right Own (injected sets of_variable plan) later_entries owns)

  direction_own : AreOwn sets of_direction rows direction
  direction_own = all_right Own (injected sets of_row multipliers) (injected sets of_direction direction) (all_right Own (injected sets of_variable plan) later_entries owns)

  pub plan_given : AreGiven (variable_fields sets) rows (map valued plan)
  plan_given = own_given sets of_variable rows plan plan_own

  pub rows_given : AreGiven (row_fields sets) rows (map valued multipliers)
  rows_given = own_given sets of_row rows multipliers rows_own

  pub direction_given : AreGiven (direction_fields sets) rows (map valued direction)
  direction_given = own_given sets of_direction rows direction direction_own

  -- a name that no entry of the three has is that of none
  apart_from : (name : Fields) → ((v : Var) → Has (keys_of plan) v → variable_fields sets v ≡ name → ⊥) → ((n : RowName) → Has (keys_of multipliers) n → row_fields sets n ≡ name → ⊥)
      → ((v : Var) → Has (keys_of direction) v → direction_fields sets v ≡ name → ⊥) → AllByRecursion (λ (e : Key × Frac). ¬ (key_fields sets e.0 ≡ name)) entries
  apart_from name no_variable no_row no_direction =
      all_append (λ (e : Key × Frac). ¬ (key_fields sets e.0 ≡ name)) (injected sets of_variable plan) later_entries
      (all_injected sets of_variable (λ (e : Key × Frac). ¬ (key_fields sets e.0 ≡ name)) plan (by_keys (λ v. ¬ (variable_fields sets v ≡ name)) plan no_variable))
      (all_append (λ (e : Key × Frac). ¬ (key_fields sets e.0 ≡ name)) (injected sets of_row multipliers) (injected sets of_direction direction)
      (all_injected sets of_row (λ (e : Key × Frac). ¬ (key_fields sets e.0 ≡ name)) multipliers (by_keys (λ n. ¬ (row_fields sets n ≡ name)) multipliers no_row))
      (all_injected sets of_direction (λ (e : Key × Frac). ¬ (key_fields sets e.0 ≡ name)) direction (by_keys (λ v. ¬ (direction_fields sets v ≡ name)) direction no_direction)))

  -- a name that none of the entries has is named by no record
  unnamed : (name : Fields) → AllByRecursion (λ (e : Key × Frac). ¬ (key_fields sets e.0 ≡ name)) entries → is_named_in rows name ≡ true → ⊥
  unnamed name never is =
      none_true (sym (ap is_some (subst (λ es. record_of (map (key_record sets) es) name ≡ None) (every (map valued entries)) (absent (key_fields sets) (key_record sets) (λ e. key_named sets e.0 e.1) (λ _. true) name entries never))) ∙ is)
    where
      none_true : false ≡ true → ⊥
      none_true e = cc

  -- a variable that is named is one of the plan's
  plan_back : (v : Var) → Has vars v → is_named_in rows (variable_fields sets v) ≡ true → Has (keys_of plan) v
  plan_back v in_vars is = elim (has_or_not var_cmp var_cmp_total var_cmp_exact (keys_of plan) v) [
    | inl found ↦ found
    | inr never ↦ absurd (unnamed (variable_fields sets v) (apart_from (variable_fields sets v)
        (λ w in_plan same. never w in_plan (same_variable sets listed.are_sets w v (variable_listed w (plan_keys.among w in_plan)) (variable_listed v in_vars) same))
        (λ n in_rows same. variable_no_row sets v n (variable_listed v in_vars) (row_listed n (row_keys.among n in_rows)) (sym same))
        (λ w in_direction same. variable_no_direction sets v w (variable_listed v in_vars) (sym same))) is)
  ]

  row_back : (n : RowName) → Has names n → is_named_in rows (row_fields sets n) ≡ true → Has (keys_of multipliers) n
  row_back n in_names is = elim (has_or_not row_name_cmp row_name_cmp_total row_name_cmp_exact (keys_of multipliers) n) [
    | inl found ↦ found
    | inr never ↦ absurd (unnamed (row_fields sets n) (apart_from (row_fields sets n)
        (λ w in_plan same. variable_no_row sets w n (variable_listed w (plan_keys.among w in_plan)) (row_listed n in_names) same)
        (λ m in_rows same. never m in_rows (same_row sets listed.are_sets m n (row_listed m (row_keys.among m in_rows)) (row_listed n in_names) same))
        (λ w in_direction same. row_no_direction sets n w (row_listed n in_names) (sym same))) is)
  ]

  direction_back : (v : Var) → Has vars v → is_named_in rows (direction_fields sets v) ≡ true → Has (keys_of direction) v
  direction_back v in_vars is = elim (has_or_not var_cmp var_cmp_total var_cmp_exact (keys_of direction) v) [
    | inl found ↦ found
    | inr never ↦ absurd (unnamed (direction_fields sets v) (apart_from (direction_fields sets v)
        (λ w in_plan same. variable_no_direction sets w v (variable_listed w (plan_keys.among w in_plan)) same)
        (λ n in_rows same. row_no_direction sets n v (row_listed n (row_keys.among n in_rows)) same)
        (λ w in_direction same. never w in_direction (same_direction sets listed.are_sets w v (variable_listed w (direction_keys.among w in_direction)) (variable_listed v in_vars) same))) is)
  ]

  pub plan_named : named_of (variable_fields sets) rows vars ≡ keys_of plan
  plan_named =
      sym (kept_are var_cmp var_cmp_total (λ v. is_named_in rows (variable_fields sets v)) vars (keys_of plan) listed.ascending_vars plan_keys.ascending
      (λ v h. (plan_keys.among v h, own_named sets of_variable rows plan plan_own v h)) plan_back)

  pub rows_named : named_of (row_fields sets) rows names ≡ keys_of multipliers
  rows_named =
      sym (kept_are row_name_cmp row_name_cmp_total (λ n. is_named_in rows (row_fields sets n)) names (keys_of multipliers) listed.ascending_rows row_keys.ascending
      (λ n h. (row_keys.among n h, own_named sets of_row rows multipliers rows_own n h)) row_back)

  pub direction_named : named_of (direction_fields sets) rows vars ≡ keys_of direction
  direction_named =
      sym (kept_are var_cmp var_cmp_total (λ v. is_named_in rows (direction_fields sets v)) vars (keys_of direction) listed.ascending_vars direction_keys.ascending
      (λ v h. (direction_keys.among v h, own_named sets of_direction rows direction direction_own v h)) direction_back)

  -- the records, sort by sort
  pub rows_are : rows ≡ map (variable_record sets) (map valued plan) ++ (map (row_record sets) (map valued multipliers) ++ map (direction_record sets) (map valued direction))
  rows_are =
      map_both (injected sets of_variable plan) later_entries
      ∙ ap₂ (λ xs ys. xs ++ ys) (records_injected sets of_variable plan)
      (map_both (injected sets of_row multipliers) (injected sets of_direction direction)
      ∙ ap₂ (λ xs ys. xs ++ ys) (records_injected sets of_row multipliers) (records_injected sets of_direction direction))
    where
      map_both : (xs ys : List (Key × Frac)) → map (key_record sets) (map valued (xs ++ ys)) ≡ map (key_record sets) (map valued xs) ++ map (key_record sets) (map valued ys)
      map_both [] ys = refl
      map_both (x ∷ xs) ys = ap (λ rs. key_record sets (valued x) ∷ rs) (map_both xs ys)

-- ---- multipliers that aren't 0

abbrev pub nonzero_entries : List (RowName × Frac) → List (RowName × Frac)
nonzero_entries es = filter (λ (e : RowName × Frac). not (is_zero (value_of e.1).top)) es

pub nonzero_valued : (es : List (RowName × Frac)) → map valued (nonzero_entries es) ≡ nonzero (map valued es)
nonzero_valued [] = refl
nonzero_valued (e ∷ es) = by_test (nonzero_valued es) (not (is_zero (value_of e.1).top))
  where
    by_test : map valued (nonzero_entries es) ≡ nonzero (map valued es) → (b : Bool) → map valued (if b then e ∷ nonzero_entries es else nonzero_entries es) ≡ (if b then valued e ∷ nonzero (map valued es) else nonzero (map valued es))
    by_test others true = ap (λ xs. valued e ∷ xs) others
    by_test others false = others

nonzero_has : (es : List (RowName × Frac)) (n : RowName) → Has (keys_of (nonzero_entries es)) n → Has (keys_of es) n
nonzero_has [] n h = h
nonzero_has (e ∷ es) n h = by_test (nonzero_has es n) (not (is_zero (value_of e.1).top)) h
  where
    by_test : (Has (keys_of (nonzero_entries es)) n → Has (keys_of es) n) → (b : Bool) → Has (keys_of (if b then e ∷ nonzero_entries es else nonzero_entries es)) n → Has (keys_of (e ∷ es)) n
    by_test after true (inl same) = inl same
    by_test after true (inr later) = inr (after later)
    by_test after false later = inr (after later)

nonzero_after : (x : RowName) (es : List (RowName × Frac)) → ascends row_name_cmp (x ∷ keys_of es) ≡ true → ascends row_name_cmp (x ∷ keys_of (nonzero_entries es)) ≡ true
nonzero_after x [] h = refl
nonzero_after x (e ∷ es) h =
    by_test (not (is_zero (value_of e.1).top)) (nonzero_after e.0 es (ascends-tail row_name_cmp x (keys_of (e ∷ es)) h)) (nonzero_after x es (ascends-skip row_name_cmp row_name_cmp_total x e.0 (keys_of es) h))
  where
    by_test : (b : Bool) → ascends row_name_cmp (e.0 ∷ keys_of (nonzero_entries es)) ≡ true → ascends row_name_cmp (x ∷ keys_of (nonzero_entries es)) ≡ true
        → ascends row_name_cmp (x ∷ keys_of (if b then e ∷ nonzero_entries es else nonzero_entries es)) ≡ true
    by_test true kept left = ap₂ (λ a b. a && b) (both_passed (is_lt (row_name_cmp x e.0)) (ascends row_name_cmp (keys_of (e ∷ es))) h).0 kept
    by_test false kept left = left

nonzero_ascends : (es : List (RowName × Frac)) → ascends row_name_cmp (keys_of es) ≡ true → ascends row_name_cmp (keys_of (nonzero_entries es)) ≡ true
nonzero_ascends [] h = refl
nonzero_ascends (e ∷ es) h = by_test (not (is_zero (value_of e.1).top)) (nonzero_after e.0 es h) (nonzero_ascends es (ascends-tail row_name_cmp e.0 (keys_of es) h))
  where
    by_test : (b : Bool) → ascends row_name_cmp (e.0 ∷ keys_of (nonzero_entries es)) ≡ true → ascends row_name_cmp (keys_of (nonzero_entries es)) ≡ true
        → ascends row_name_cmp (keys_of (if b then e ∷ nonzero_entries es else nonzero_entries es)) ≡ true
    by_test true kept left = kept
    by_test false kept left = left

pub some_nonzero : (names : List RowName) (es : List (RowName × Frac)) → KeysAreNames names (keys_of es) → AreSome row_name_cmp names (keys_of (nonzero_entries es))
some_nonzero names es keys = record {
  ascending = nonzero_ascends es keys.ascending;
  among = λ n h. Has-from_Contains names n (keys.among n (Contains-from_Has (keys_of es) n (nonzero_has es n h)));
}
