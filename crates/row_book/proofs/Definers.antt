-- Which variable an instance defines: the row names and the variables that are defined go together one by one.
use Rattle.row_book.proofs.Common.{◌≡◌, ◌≢◌, ℕ, ◌<◌, ◌≤◌, Bool, true, false, cond, not, ◌&&◌, ◌⊎◌, inl, inr, List, [], ◌∷◌, nat_eq, nat_le, nat_lt, Some, None, refl, ap, ap₂, sym, ◌∙◌, subst, arith, ltb-true, le-leb, leb-true, eq-eqb, eqb-true, list_all, list_any, if◌then◌else◌, eq-or-lt_of_le, and_parts, cases_lt, ne_eqb, or_cases, Data, Index, RowName, Sense, Var, IsEquation, IsKind, defines_kind, definers, exists, exists_at, exists_everywhere, kind_numbers, subscripts_of_kind, equation_numbers, is_index, name_at, stands_at, subscripts_of, variable_of, by_sinking_fund, by_straight_line, has_sv1, has_sv2, outlasts, other_trade, trade, variable, method_of, rate_of, Has, EachFrom, at_number, IsChosen, terms_at, tidied}
use Rattle.row_core.specs.declared.Sense.TheVariants.{Equal, Least, Most}
use Rattle.row_book.proofs.Elements.{Has-filter, filter_parts}
use Rattle.row_book.proofs.Instances.{IsInstance}
use Rattle.row_book.proofs.KindLaws.{defined-by_kind, defines-kind, kind_of, one-number, salvage-number, same-subscripts, trade-number, variable-defined}
use Rattle.row_book.proofs.Numbers.{Has-range, in-range, range-has}
use Rattle.row_book.proofs.RatioCells.{has-any}
use Rattle.row_book.proofs.Subscripts.{AreValues, index-from_values, index-tidied, values-from_index}
use Rattle.row_book.proofs.TermVariables.{is_earlier}

-- the index with its two regions exchanged
abbrev pub swapped : Index → Index
swapped i = record i { region = i.other; other = i.region }

-- the index at which a variable of this kind is defined
abbrev defining_index : Var → Index
defining_index v = if nat_eq v.kind 3 then swapped v.index else v.index

-- ---- what is true of an instance that defines a variable

-- its number is one that defines the variable's kind, and the two indices are the same but for an exchange
pub record IsDefiner (name : RowName) (v : Var) : Type 0 where
  pub kind : kind_of name.eq ≡ v.kind
  pub some : kind_of name.eq ≢ 0
  pub index : name.index ≡ defining_index v

never_some : (v : Var) → Some v ≡ None → ⊥
never_some v e = cc

never_none : (v : Var) → None ≡ Some v → ⊥
never_none v e = cc

same_some : (v w : Var) → Some v ≡ Some w → v ≡ w
same_some v w e = cc

pub chosen-some : (b : Bool) (v w : Var) → cond b (Some v) None ≡ Some w → (b ≡ true) × (v ≡ w)
chosen-some true v w e = (refl, same_some v w e)
chosen-some false v w e = absurd (never_none w e)

not_chosen : (b : Bool) (v : Var) → cond b (Some v) None ≡ None → b ≡ false
not_chosen true v e = absurd (never_some v e)
not_chosen false v e = refl

not_zero : (k : ℕ) → nat_eq k 0 ≡ false → k ≢ 0
not_zero k fails zero_is = let passes : nat_eq k 0 ≡ true = eq-eqb k 0 zero_is in cc

-- of a trade
by_trade : (i : Index) (v : Var) → i ≡ tidied (subscripts_of 16) i → other_trade i ≡ Some v → (v.kind ≡ 3) × (i ≡ defining_index v)
by_trade i v tidy defines =
    let chosen = chosen-some (nat_le i.region i.other) (trade i.other i.region i.slice i.fuel i.year) v defines in
    let kind : v.kind ≡ 3 = ap (λ (w : Var). w.kind) (sym chosen.1) in
    (kind, tidy ∙ ap defining_index chosen.1)

-- of another kind
by_own : (k : ℕ) (i : Index) (v : Var) → nat_eq k 3 ≡ false → Some (variable k i) ≡ Some v → (k ≡ v.kind) × (i ≡ defining_index v)
by_own k i v other defines =
    let same = same_some (variable k i) v defines in
    (ap (λ (w : Var). w.kind) same, ap (λ b. if b then swapped i else i) (sym other) ∙ ap defining_index same)

pub is-definer : (d : Data) (name : RowName) (v : Var) → IsInstance d name → variable_of name ≡ Some v → IsDefiner name v
is-definer d name v instance defines =
    let tidy = index-tidied d (subscripts_of name.eq) name.index (values-from_index d (subscripts_of name.eq) name.index instance.within) in
    by_test (nat_eq (kind_of name.eq) 0) (nat_eq (kind_of name.eq) 3) refl refl tidy (sym (defined-by_kind name instance.equation) ∙ defines)
  where
    by_test : (b c : Bool) → nat_eq (kind_of name.eq) 0 ≡ b → nat_eq (kind_of name.eq) 3 ≡ c → name.index ≡ tidied (subscripts_of name.eq) name.index
        → (if b then None else if c then other_trade name.index else Some (variable (kind_of name.eq) (tidied (subscripts_of name.eq) name.index))) ≡ Some v → IsDefiner name v
    by_test true c is_0 is_3 tidy e = absurd (never_none v e)
    by_test false true is_0 is_3 tidy e =
        let kind : kind_of name.eq ≡ 3 = eqb-true (kind_of name.eq) 3 is_3 in
        let number : name.eq ≡ 16 = trade-number name.eq instance.equation kind in
        let parts = by_trade name.index v (subst (λ n. name.index ≡ tidied (subscripts_of n) name.index) number tidy) e in
        record { kind = kind ∙ sym parts.0; some = not_zero (kind_of name.eq) is_0; index = parts.1 }
    by_test false false is_0 is_3 tidy e =
        let parts = by_own (kind_of name.eq) (tidied (subscripts_of name.eq) name.index) v is_3 e in
        record { kind = parts.0; some = not_zero (kind_of name.eq) is_0; index = tidy ∙ parts.1 }

-- it is one of the numbers that define the kind
definer_listed : (d : Data) (name : RowName) (v : Var) → IsInstance d name → IsDefiner name v → Has (definers v.kind) name.eq
definer_listed d name v instance of_name =
    Has-filter (defines_kind v.kind) equation_numbers name.eq (Has-range 1 64 name.eq instance.equation.0 (omega (arith, instance.equation.1)))
    (defines-kind name.eq v.kind instance.equation
    ∙ ap (λ b. if b then false else nat_eq (kind_of name.eq) v.kind) (ne_eqb (kind_of name.eq) 0 of_name.some)
    ∙ eq-eqb (kind_of name.eq) v.kind of_name.kind)

-- so it is before a number that they are all before
pub definer-before : (d : Data) (name : RowName) (v : Var) (n : ℕ) → IsInstance d name → variable_of name ≡ Some v → is_earlier v.kind n ≡ true → name.eq < n
definer-before d name v n instance defines earlier =
    at_one (definers v.kind) (definer_listed d name v instance (is-definer d name v instance defines)) earlier
  where
    at_one : (ns : List ℕ) → Has ns name.eq → list_all (λ m. nat_lt m n) ns ≡ true → name.eq < n
    at_one [] has passes = absurd has
    at_one (m ∷ ns) (inl e) passes = ltb-true name.eq n (subst (λ k. nat_lt k n ≡ true) e (and_parts (nat_lt m n) (list_all (λ k. nat_lt k n) ns) passes).0)
    at_one (m ∷ ns) (inr has) passes = at_one ns has (and_parts (nat_lt m n) (list_all (λ k. nat_lt k n) ns) passes).1

-- ---- no variable has two

-- which of the three equations of the salvage value has an instance at the index
abbrev salvage_number_at : Data → Index → ℕ
salvage_number_at d i = if has_sv1 d i.region i.tech i.year then 27 else if has_sv2 d i.region i.tech i.year then 28 else 29

-- no region depreciates both ways
not_both : (d : Data) (r : ℕ) → by_sinking_fund d r ≡ true → by_straight_line d r ≡ true → ⊥
not_both d r fund line =
    let first = and_parts (nat_eq (method_of d r) 1) (nat_lt 0 (rate_of d r)) fund in
    let one : method_of d r ≡ 1 = eqb-true (method_of d r) 1 first.0 in
    let above : 0 < rate_of d r = ltb-true 0 (rate_of d r) first.1 in
    elim (or_cases (nat_eq (method_of d r) 2) (nat_eq (method_of d r) 1 && nat_eq (rate_of d r) 0) line) [
      | inl second ↦ let two : method_of d r ≡ 2 = eqb-true (method_of d r) 2 second in omega (arith, one, two)
      | inr rest ↦
          let none : rate_of d r ≡ 0 = eqb-true (rate_of d r) 0 (and_parts (nat_eq (method_of d r) 1) (nat_eq (rate_of d r) 0) rest).1 in
          omega (arith, above, none)
    ]

false_unless : (b : Bool) → (b ≡ true → ⊥) → b ≡ false
false_unless true never = absurd (never refl)
false_unless false never = refl

not_true : (b : Bool) → not b ≡ true → b ≡ false
not_true true e = absurd (cc e)
not_true false e = refl

salvage_numbers : (d : Data) (i : Index) → EachFrom (λ n. stands_at d n i ≡ true → n ≡ salvage_number_at d i) 27 3
salvage_numbers d i =
    let first : Bool = has_sv1 d i.region i.tech i.year in
    let second : Bool = has_sv2 d i.region i.tech i.year in
    let none : second ≡ true → first ≡ false =
    λ is_second. false_unless first
    (λ is_first.
    not_both d i.region (and_parts (outlasts d i.region i.tech i.year) (by_sinking_fund d i.region) is_first).1
    (and_parts (outlasts d i.region i.tech i.year) (by_straight_line d i.region) is_second).1) in (
      λ is_first. sym (ap (λ b. if b then 27 else if second then 28 else 29) is_first),
      (
        λ is_second. sym (ap₂ (λ a b. if a then 27 else if b then 28 else 29) (none is_second) is_second),
        (
          λ is_third.
              let neither = and_parts (not first) (not second) is_third in
              sym (ap₂ (λ a b. if a then 27 else if b then 28 else 29) (not_true first neither.0) (not_true second neither.1)),
          tt,
        ),
      ),
    )

salvage_at : (d : Data) (name : RowName) → IsInstance d name → kind_of name.eq ≡ 25 → name.eq ≡ salvage_number_at d name.index
salvage_at d name instance kind =
    let range = salvage-number name.eq instance.equation kind in
    at_number (λ n. stands_at d n name.index ≡ true → n ≡ salvage_number_at d name.index) 27 3 name.eq (salvage_numbers d name.index) range.0 (omega (arith, range.1)) instance.stands

-- two instances that define one variable are one
pub same-definer : (d : Data) (a b : RowName) (v : Var) → IsInstance d a → IsInstance d b → variable_of a ≡ Some v → variable_of b ≡ Some v → a ≡ b
same-definer d a b v instance other defines defines_too =
    let of_a = is-definer d a v instance defines in
    let of_b = is-definer d b v other defines_too in
    let index : a.index ≡ b.index = of_a.index ∙ sym of_b.index in
    let kind : kind_of a.eq ≡ kind_of b.eq = of_a.kind ∙ sym of_b.kind in
    ap₂ name_at (by_test (nat_eq (kind_of a.eq) 25) refl of_a.some index kind) index
  where
    by_test : (c : Bool) → nat_eq (kind_of a.eq) 25 ≡ c → kind_of a.eq ≢ 0 → a.index ≡ b.index → kind_of a.eq ≡ kind_of b.eq → a.eq ≡ b.eq
    by_test true is some index kind =
        let salvage : kind_of a.eq ≡ 25 = eqb-true (kind_of a.eq) 25 is in
        salvage_at d a instance salvage ∙ ap (salvage_number_at d) index ∙ sym (salvage_at d b other (sym kind ∙ salvage))
    by_test false is some index kind =
        one-number a.eq b.eq instance.equation other.equation kind some (λ e. let passes : nat_eq (kind_of a.eq) 25 ≡ true = eq-eqb (kind_of a.eq) 25 e in cc)

-- a trade that is defined doesn't go to a later region
pub defined-trade : (d : Data) (name : RowName) (v : Var) → IsInstance d name → variable_of name ≡ Some v → v.kind ≡ 3 → v.index.other ≤ v.index.region
defined-trade d name v instance defines trades =
    let of_name = is-definer d name v instance defines in
    let number : name.eq ≡ 16 = trade-number name.eq instance.equation (of_name.kind ∙ trades) in
    let chosen =
    chosen-some (nat_le name.index.region name.index.other) (trade name.index.other name.index.region name.index.slice name.index.fuel name.index.year) v
    (ap (λ n. variable_of (name_at n name.index)) (sym number) ∙ defines) in
    subst (λ (w : Var). w.index.other ≤ w.index.region) chosen.1 (leb-true name.index.region name.index.other chosen.0)

-- ---- equations and inequalities

abbrev is_equality : Sense → Bool
is_equality Least = false
is_equality Equal = true
is_equality Most = false

equal_where : (sense : Sense) → is_equality sense ≡ true → sense ≡ Equal
equal_where Least e = absurd (cc e)
equal_where Equal e = refl
equal_where Most e = absurd (cc e)

-- the rows of the definitions are equations, and no others
equality-each : (places : ℕ) (d : Data) (i : Index) → EachFrom (λ n. is_equality (terms_at places d (name_at n i)).sense ≡ not (nat_eq (kind_of n) 0)) 1 64
equality-each places d i = (refl, (refl, (refl, (refl, (refl, (refl, (refl, (refl, (refl, (refl, (refl, (refl, (refl, (refl, (refl, (refl, (refl, (refl, (refl, (refl, (refl, (refl, (refl, (refl, (refl, (refl, (refl, (refl, (refl, (refl, (refl, (refl, (refl, (refl, (refl, (refl, (refl, (refl, (refl, (refl, (refl, (refl, (refl, (refl, (refl, (refl, (refl, (refl, (refl, (refl, (refl, (refl, (refl, (refl, (refl, (refl, (refl, (refl, (refl, (refl, (refl, (refl, (refl, (refl, tt))))))))))))))))))))))))))))))))))))))))))))))))))))))))))))))))

equality-at : (places : ℕ) (d : Data) (name : RowName) → IsInstance d name → is_equality (terms_at places d name).sense ≡ not (nat_eq (kind_of name.eq) 0)
equality-at places d name instance =
    at_number (λ n. is_equality (terms_at places d (name_at n name.index)).sense ≡ not (nat_eq (kind_of n) 0)) 1 64 name.eq (equality-each places d name.index)
    instance.equation.0 (omega (arith, instance.equation.1))

pub definer-equation : (places : ℕ) (d : Data) (name : RowName) (v : Var) → IsInstance d name → variable_of name ≡ Some v → (terms_at places d name).sense ≡ Equal
definer-equation places d name v instance defines =
    equal_where (terms_at places d name).sense
    (equality-at places d name instance ∙ ap not (ne_eqb (kind_of name.eq) 0 (is-definer d name v instance defines).some))

-- an equation that defines nothing is an exchange from a later region to an earlier one
pub is-exchange : (places : ℕ) (d : Data) (name : RowName) → IsInstance d name → variable_of name ≡ None → (terms_at places d name).sense ≡ Equal
    → (name.eq ≡ 16) × (nat_le name.index.region name.index.other ≡ false)
is-exchange places d name instance none equal =
    by_test (nat_eq (kind_of name.eq) 0) (nat_eq (kind_of name.eq) 3) refl (sym (equality-at places d name instance) ∙ ap is_equality equal) (sym (defined-by_kind name instance.equation) ∙ none)
  where
    by_test : (b c : Bool) → nat_eq (kind_of name.eq) 3 ≡ c → not b ≡ true
        → (if b then None else if c then other_trade name.index else Some (variable (kind_of name.eq) (tidied (subscripts_of name.eq) name.index))) ≡ None
        → (name.eq ≡ 16) × (nat_le name.index.region name.index.other ≡ false)
    by_test true c is_3 some e = absurd (cc some)
    by_test false true is_3 some e = (
      trade-number name.eq instance.equation (eqb-true (kind_of name.eq) 3 is_3),
      not_chosen (nat_le name.index.region name.index.other) (trade name.index.other name.index.region name.index.slice name.index.fuel name.index.year) e,
    )
    by_test false false is_3 some e = absurd (never_some (variable (kind_of name.eq) (tidied (subscripts_of name.eq) name.index)) e)

-- ---- variables that exist are chosen or defined

-- some instance defines the variable
pub record IsDefined (d : Data) (v : Var) : Type 0 where
  pub name : RowName
  pub instance : IsInstance d name
  pub defines : variable_of name ≡ Some v

-- what it is for a variable to exist
record Exists (d : Data) (v : Var) : Type 0 where
  kind : IsKind v.kind
  within : is_index d (subscripts_of_kind v.kind) v.index ≡ true
  stands : exists_at d v.kind v.index ≡ true

exists-parts : (d : Data) (v : Var) → exists d v ≡ true → Exists d v
exists-parts d v there =
    let tests = and_parts (list_any (nat_eq v.kind) kind_numbers && is_index d (subscripts_of_kind v.kind) v.index) (exists_at d v.kind v.index) there in
    let first = and_parts (list_any (nat_eq v.kind) kind_numbers) (is_index d (subscripts_of_kind v.kind) v.index) tests.0 in
    let range = in-range v.kind 1 48 first.0 in
    record { kind = (range.0, omega (arith, range.1)); within = first.1; stands = tests.1 }

pub exists-kind : (d : Data) (v : Var) → exists d v ≡ true → IsKind v.kind
exists-kind d v there = (exists-parts d v there).kind

pub exists-within : (d : Data) (v : Var) → exists d v ≡ true → is_index d (subscripts_of_kind v.kind) v.index ≡ true
exists-within d v there = (exists-parts d v there).within

swapped-values : (d : Data) (i : Index) → AreValues d (subscripts_of 16) i → AreValues d (subscripts_of 16) (swapped i)
swapped-values d i at = record {
  region = at.other;
  other = at.region;
  slice = at.slice;
  tech = at.tech;
  fuel = at.fuel;
  emission = at.emission;
  mode = at.mode;
  year = at.year;
}

-- the instance with the two regions exchanged
pub exchange-instance : (d : Data) (i : Index) → is_index d (subscripts_of 16) i ≡ true → IsInstance d (name_at 16 (swapped i))
exchange-instance d i within = record {
  equation = (omega arith, omega arith);
  within = index-from_values d (subscripts_of 16) (swapped i) (swapped-values d i (values-from_index d (subscripts_of 16) i within));
  stands = refl;
}

-- a trade from a region to one that isn't later is defined
trade_found : (d : Data) (i : Index) → is_index d (subscripts_of_kind 3) i ≡ true → IsChosen (variable 3 i) ⊎ IsDefined d (variable 3 i)
trade_found d i within =
    elim (cases_lt i.region i.other) [
      | inl less ↦ inl (inr (inr (refl, less)))
      | inr from ↦
          inr
          (record {
            name = name_at 16 (swapped i);
            instance = exchange-instance d i within;
            defines =
                ap (λ b. cond b (Some (trade i.region i.other i.slice i.fuel i.year)) None) (le-leb i.other i.region from)
                ∙ ap (λ (j : Index). Some (variable 3 j)) (sym (index-tidied d (subscripts_of 16) i (values-from_index d (subscripts_of 16) i within)));
          })
    ]

not_zero_kind : (k kind : ℕ) → (if nat_eq k 0 then false else nat_eq k kind) ≡ true → (k ≢ 0) × (k ≡ kind)
not_zero_kind k kind e = by_test (nat_eq k 0) refl e
  where
    by_test : (b : Bool) → nat_eq k 0 ≡ b → (if b then false else nat_eq k kind) ≡ true → (k ≢ 0) × (k ≡ kind)
    by_test true is e = absurd (cc e)
    by_test false is e = (not_zero k is, eqb-true k kind e)

-- a variable of another kind is defined where an equation of its kind stands
own_found : (d : Data) (v : Var) → Exists d v → v.kind ≢ 3 → list_any (λ eq. stands_at d eq v.index) (definers v.kind) ≡ true → IsDefined d v
own_found d v there other some =
    let found = has-any (λ eq. stands_at d eq v.index) (definers v.kind) some in
    let passed = filter_parts (defines_kind v.kind) equation_numbers found.0 found.1.0 in
    let range = range-has 1 64 found.0 passed.0 in
    let equation : IsEquation found.0 = (range.0, omega (arith, range.1)) in
    let kind = not_zero_kind (kind_of found.0) v.kind (sym (defines-kind found.0 v.kind equation) ∙ passed.1) in
    let subscripts : subscripts_of found.0 ≡ subscripts_of_kind v.kind = same-subscripts found.0 equation kind.0 ∙ ap subscripts_of_kind kind.1 in
    let within : is_index d (subscripts_of found.0) v.index ≡ true = subst (λ s. is_index d s v.index ≡ true) (sym subscripts) there.within in
    record {
      name = name_at found.0 v.index;
      instance = record { equation = equation; within = within; stands = found.1.1 };
      defines =
          sym (variable-defined (name_at found.0 v.index) (kind_of found.0) equation refl kind.0 (λ e. other (sym kind.1 ∙ e)))
          ∙ ap₂ (λ k (j : Index). Some (variable k j)) kind.1 (sym (index-tidied d (subscripts_of found.0) v.index (values-from_index d (subscripts_of found.0) v.index within)));
    }

pub is-found : (d : Data) (v : Var) → exists d v ≡ true → IsChosen v ⊎ IsDefined d v
is-found d v there = by_test (nat_eq v.kind 3) refl (exists-parts d v there)
  where
    by_test : (b : Bool) → nat_eq v.kind 3 ≡ b → Exists d v → IsChosen v ⊎ IsDefined d v
    by_test true is there =
        let trades : v.kind ≡ 3 = eqb-true v.kind 3 is in
        subst (λ k. IsChosen (variable k v.index) ⊎ IsDefined d (variable k v.index)) (sym trades)
        (trade_found d v.index (subst (λ k. is_index d (subscripts_of_kind k) v.index ≡ true) trades there.within))
    by_test false is there =
        let other : v.kind ≢ 3 = λ e. let passes : nat_eq v.kind 3 ≡ true = eq-eqb v.kind 3 e in cc in
        elim (or_cases (exists_everywhere v.kind) (list_any (λ eq. stands_at d eq v.index) (definers v.kind)) there.stands) [
          | inl low ↦ inl (chosen (leb-true v.kind 3 low) other there.kind.0)
          | inr some ↦ inr (own_found d v there other some)
        ]
      where
        chosen : v.kind ≤ 3 → v.kind ≢ 3 → 1 ≤ v.kind → IsChosen v
        chosen most other least =
            elim (eq-or-lt_of_le least) [
              | inl one ↦ inl (sym one)
              | inr above ↦
                  elim (eq-or-lt_of_le above) [ inl two ↦ inr (inl (sym two)) | inr past ↦ absurd (other (let three : v.kind ≡ 3 = omega (arith, most, past) in three)) ]
            ]
