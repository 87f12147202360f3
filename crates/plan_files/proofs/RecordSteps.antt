-- The records that a text has left, one after another: so many turns as the text has bytes reach its end.
use Rattle.plan_files.proofs.Common.{◌≡◌, ℕ, zero, suc, ◌+◌, ◌<◌, Bool, true, false, ◌||◌, ◌==◌, List, [], ◌∷◌, ◌++◌, length, Option, Some, None, refl, sym, ap, ◌∙◌, subst, arith, add-one, if◌then◌else◌, Read, ends_at_end, field_after, fields_after, in_field, is_end, next_record, start_field, start_record, step, default_config, records_from, records_next}
use Rattle.csv.specs.declared.parser.Action.{Action}
use Rattle.csv.specs.declared.parser.Action.TheVariants as act
use Rattle.csv.specs.declared.parser.State.{State}
use Rattle.csv.specs.declared.parser.State.TheVariants as st

-- ---- after the end of a record the end of the text ends no other

abbrev Leaves : State × Action → Type 0
Leaves p = is_end p.1 ≡ true → ends_at_end p.0 ≡ false

either : (b : Bool) (x y : State × Action) → Leaves x → Leaves y → Leaves (if b then x else y)
either true x y l r = l
either false x y l r = r

no_end : (s : State) (a : Action) → is_end a ≡ false → Leaves (s, a)
no_end s a not_end e = let clash : false ≡ true = sym not_end ∙ e in cc

ended : (b : Bool) → Leaves ((if b then st.AfterCr else st.StartRecord), act.EndRecord)
ended true e = refl
ended false e = refl

in_field_leaves : (c : ℕ) → Leaves (in_field default_config c)
in_field_leaves c =
    either (c == 44) (st.StartField, act.EndField) _ (no_end st.StartField act.EndField refl)
    (either ((c == 13) || (c == 10)) ((if c == 13 then st.AfterCr else st.StartRecord), act.EndRecord) (st.InField, act.Copy) (ended (c == 13)) (no_end st.InField act.Copy refl))

start_field_leaves : (c : ℕ) → Leaves (start_field default_config c)
start_field_leaves c = either (c == 34) (st.InQuoted, act.Skip) (in_field default_config c) (no_end st.InQuoted act.Skip refl) (in_field_leaves c)

start_record_leaves : (c : ℕ) → Leaves (start_record default_config c)
start_record_leaves c = either ((c == 13) || (c == 10)) (st.StartRecord, act.Skip) (start_field default_config c) (no_end st.StartRecord act.Skip refl) (start_field_leaves c)

step_leaves : (s : State) (c : ℕ) → Leaves (step default_config s c)
step_leaves st.StartRecord c = start_record_leaves c
step_leaves st.StartField c = start_field_leaves c
step_leaves st.InField c = in_field_leaves c
step_leaves st.InQuoted c = either (c == 34) (st.AfterQuote, act.Skip) (st.InQuoted, act.Copy) (no_end st.AfterQuote act.Skip refl) (no_end st.InQuoted act.Copy refl)
step_leaves st.InEscape c = no_end st.InQuoted act.Copy refl
step_leaves st.AfterQuote c = either (c == 34) (st.InQuoted, act.Copy) (in_field default_config c) (no_end st.InQuoted act.Copy refl) (in_field_leaves c)
step_leaves st.InComment c = either (c == 10) (st.StartRecord, act.Skip) (st.InComment, act.Skip) (no_end st.StartRecord act.Skip refl) (no_end st.InComment act.Skip refl)
step_leaves st.AfterCr c = either (c == 10) (st.StartRecord, act.Skip) (start_record default_config c) (no_end st.StartRecord act.Skip refl) (start_record_leaves c)

-- ---- what a record leaves is shorter

abbrev read_or : Read → Option Read → Read
read_or p None = p
read_or p (Some q) = q

-- what a read of these bytes leaves
record IsLeft (xs : List ℕ) (p : Read) : Type 0 where
  pub shorter : length p.2 < length xs
  pub outside : ends_at_end p.1 ≡ false

-- a byte that ends the record, or what is left of the bytes after it
first_byte : (s : State) (fields : List (List ℕ)) (field : List ℕ) (c : ℕ) (rest : List ℕ) (p : Read)
    → (next_record default_config (step default_config s c).0 (fields_after (step default_config s c).1 fields field) (field_after (step default_config s c).1 c field) rest ≡ Some p → IsLeft (c ∷ rest) p)
    → next_record default_config s fields field (c ∷ rest) ≡ Some p → IsLeft (c ∷ rest) p
unfolding next_record
first_byte s fields field c rest p later found =
    ended_or (is_end (step default_config s c).1) refl found
  where
    ended_or : (b : Bool) → is_end (step default_config s c).1 ≡ b
        → (if b then Some (fields_after (step default_config s c).1 fields field, (step default_config s c).0, rest)
        else next_record default_config (step default_config s c).0 (fields_after (step default_config s c).1 fields field) (field_after (step default_config s c).1 c field) rest)
        ≡ Some p
        → IsLeft (c ∷ rest) p
    ended_or true is found =
        let last : Read = (fields_after (step default_config s c).1 fields field, (step default_config s c).0, rest) in
        let e : last ≡ p = ap (read_or last) found in
        subst (IsLeft (c ∷ rest)) e (record { shorter = omega arith; outside = step_leaves s c is })
    ended_or false is found = later found

at_end : (s : State) (fields : List (List ℕ)) (field : List ℕ) (c : ℕ) (p : Read) → next_record default_config s fields field [] ≡ Some p → IsLeft (c ∷ []) p
unfolding next_record
at_end s fields field c p found = ended_or (ends_at_end s) found
  where
    ended_or : (b : Bool) → (if b then Some (fields ++ (field ∷ []), st.StartRecord, []) else None) ≡ Some p → IsLeft (c ∷ []) p
    ended_or true found =
        let last : Read = (fields ++ (field ∷ []), st.StartRecord, []) in
        let e : last ≡ p = ap (read_or last) found in subst (IsLeft (c ∷ [])) e (record { shorter = omega arith; outside = refl })
    ended_or false found = absurd (cc found)

left_more : (s : State) (fields : List (List ℕ)) (field : List ℕ) (c : ℕ) (rest : List ℕ) (p : Read) → next_record default_config s fields field (c ∷ rest) ≡ Some p → IsLeft (c ∷ rest) p
left_more s fields field c [] p =
    let a : Action = (step default_config s c).1 in
    first_byte s fields field c [] p (at_end (step default_config s c).0 (fields_after a fields field) (field_after a c field) c p)
left_more s fields field c (d ∷ more) p =
    let a : Action = (step default_config s c).1 in
    first_byte s fields field c (d ∷ more) p
    (λ found. let l = left_more (step default_config s c).0 (fields_after a fields field) (field_after a c field) d more p found in record { shorter = longer l.shorter; outside = l.outside })
  where
    longer : length p.2 < length (d ∷ more) → length p.2 < length (c ∷ d ∷ more)
    longer h = omega arith

left : (s : State) (xs : List ℕ) (p : Read) → ends_at_end s ≡ false → next_record default_config s [] [] xs ≡ Some p → IsLeft xs p
unfolding next_record
left s [] p out found = let none : None ≡ Some p = sym (ap (λ b. if b then Some ([] ∷ [], st.StartRecord, []) else None) out) ∙ found in absurd (cc none)
left s (c ∷ rest) p out found = left_more s [] [] c rest p found

-- ---- so many turns as there are bytes, and one more

enough : (n m : ℕ) (s : State) (xs : List ℕ) → ends_at_end s ≡ false → length xs < n → length xs < m → records_from default_config n s xs ≡ records_from default_config m s xs
unfolding records_from
enough zero m s xs out h k = absurd (omega arith)
enough (suc n) zero s xs out h k = absurd (omega arith)
enough (suc n) (suc m) s xs out h k = by_next (next_record default_config s [] [] xs) refl (λ p is. left s xs p out is) (λ p l. enough n m p.1 p.2 l.outside (fewer l.shorter h) (fewer l.shorter k))
  where
    fewer : {a b c : ℕ} → a < b → b < suc c → a < c
    fewer h k = omega arith

    by_next : (o : Option Read) → next_record default_config s [] [] xs ≡ o → ((p : Read) → next_record default_config s [] [] xs ≡ Some p → IsLeft xs p)
        → ((p : Read) → IsLeft xs p → records_from default_config n p.1 p.2 ≡ records_from default_config m p.1 p.2)
        → records_next (records_from default_config n) o ≡ records_next (records_from default_config m) o
    by_next None is leaves same = refl
    by_next (Some p) is leaves same = ap (λ rows. p.0 ∷ rows) (same p (leaves p is))

-- all records that are left
abbrev pub left_records : State → List ℕ → List (List (List ℕ))
left_records s xs = records_from default_config (length xs + 1) s xs

-- a record, and those that are left after it
pub record IsFirstOf (s : State) (xs : List ℕ) (p : Read) : Type 0 where
  pub all : left_records s xs ≡ p.0 ∷ left_records p.1 p.2
  pub outside : ends_at_end p.1 ≡ false

pub first_of : (s : State) (xs : List ℕ) (p : Read) → ends_at_end s ≡ false → next_record default_config s [] [] xs ≡ Some p → IsFirstOf s xs p
unfolding records_from
first_of s xs p out found =
    let l = left s xs p out found in
    record {
      all = ap (λ n. records_from default_config n s xs) (add-one (length xs)) ∙ ap (records_next (records_from default_config (length xs))) found
          ∙ ap (λ rows. p.0 ∷ rows) (enough (length xs) (length p.2 + 1) p.1 p.2 l.outside l.shorter (omega arith));
      outside = l.outside;
    }

pub none_left : (s : State) (xs : List ℕ) → next_record default_config s [] [] xs ≡ None → left_records s xs ≡ []
unfolding records_from
none_left s xs none = ap (λ n. records_from default_config n s xs) (add-one (length xs)) ∙ ap (records_next (records_from default_config (length xs))) none
