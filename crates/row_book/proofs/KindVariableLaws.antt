-- Variables that are gathered kind by kind are all variables.
use Rattle.row_book.proofs.Common.{◌≡◌, ℕ, ◌+◌, ◌<◌, ◌≤◌, Bool, true, false, nat_le, cond, append_assoc, drop, get_or, length, List, [], ◌∷◌, ◌++◌, refl, ap, sym, ◌∙◌, inl, inr, arith, Contains-append_cases, Contains-append_left, Contains-append_right, filter-append, drop_more, variables_of, Row, Var, entry_variables, is_before_kind, is_of_kind, lesser_kind, next_kind, AreSameVariables}
use Rattle.std.specs.Prelude.{Contains, Option, None, Some, filter, unwrap_or}
use Rattle.std.proofs.lemmas.Bool.{cases_lt, eq-eqb, eqb-true, leb-false, leb-true, lt-ltb, ltb-true}
use Rattle.param_tables.proofs.AscendingLaws.{contains_cases, contains_filter, contains_from_filter}

pub next_kind-append : (past : ℕ) (least : Option ℕ) (vs ws : List Var) → next_kind past least (vs ++ ws) ≡ next_kind past (next_kind past least vs) ws
next_kind-append past least [] ws = refl
next_kind-append past least (v ∷ vs) ws = next_kind-append past (lesser_kind past least v.kind) vs ws

-- the variables of one row more
pub split : (rows : List Row) (k : ℕ) (row : Row) → k < length rows → row ≡ get_or rows k row → entry_variables (drop k rows) ≡ variables_of row.entries.items ++ entry_variables (drop (k + 1) rows)
split rows k row below is = ap entry_variables (drop_more rows k row below) ∙ ap (λ (r : Row). variables_of r.entries.items ++ entry_variables (drop (k + 1) rows)) (sym is)

pub added-more : (p : Var → Bool) (so_far now vs rest all whole : List Var) → now ≡ so_far ++ filter p vs → all ≡ vs ++ rest → so_far ++ filter p all ≡ whole → now ++ filter p rest ≡ whole
added-more p so_far now vs rest all whole is parts before =
    ap (λ (xs : List Var). xs ++ filter p rest) is
    ∙ append_assoc so_far (filter p vs) (filter p rest)
    ∙ ap (λ (xs : List Var). so_far ++ xs) (sym (filter-append p vs rest) ∙ ap (filter p) (sym parts))
    ∙ before

pub next-more : (past : ℕ) (found next : Option ℕ) (vs rest all : List Var) (whole : Option ℕ) → next ≡ next_kind past found vs → all ≡ vs ++ rest → next_kind past found all ≡ whole → next_kind past next rest ≡ whole
next-more past found next vs rest all whole is parts before =
    ap (λ (least : Option ℕ). next_kind past least rest) is
    ∙ sym (next_kind-append past found vs rest)
    ∙ ap (next_kind past found) (sym parts)
    ∙ before

-- what a search for the next kind has found: none after `past`, or the least so far
abbrev NoneFrom : ℕ → Option ℕ → List Var → Type 0
NoneFrom past found vs = (found ≡ None) × ((v : Var) → Contains vs v → v.kind ≤ past)

nothing-found : (past kind : ℕ) (least : Option ℕ) → lesser_kind past least kind ≡ None → (least ≡ None) × (kind ≤ past)
nothing-found past kind None is = (refl, by (nat_le kind past) refl is)
  where
    by : (p : Bool) → nat_le kind past ≡ p → cond p None (Some kind) ≡ None → kind ≤ past
    by true e same = leb-true kind past e
    by false e same = absurd (let clash : Some kind ≡ None = same in cc)
nothing-found past kind (Some m) is = by (nat_le kind past) (nat_le m kind) is
  where
    by : (p q : Bool) → cond p (Some m) (cond q (Some m) (Some kind)) ≡ None → (Some m ≡ None) × (kind ≤ past)
    by true q same = absurd (let clash : Some m ≡ None = same in cc)
    by false true same = absurd (let clash : Some m ≡ None = same in cc)
    by false false same = absurd (let clash : Some kind ≡ None = same in cc)

-- no kind comes after `past`
pub none-after : (past : ℕ) (least : Option ℕ) (vs : List Var) → next_kind past least vs ≡ None → NoneFrom past least vs
none-after past least [] is = (is, λ v has. let below = has.1 in absurd (omega arith))
none-after past least (v ∷ vs) is =
    let rest = none-after past (lesser_kind past least v.kind) vs is in
    let here = nothing-found past v.kind least rest.0 in (
      here.0,
      λ w has. elim (contains_cases v vs w has) [
        | inl same ↦ (let e : v.kind ≡ w.kind = ap (λ (x : Var). x.kind) same in omega (arith, e, here.1))
        | inr others ↦ rest.1 w others
      ],
    )

some-same : (a b : ℕ) → Some a ≡ Some b → a ≡ b
some-same a b is = ap (λ (found : Option ℕ). unwrap_or found a) is

-- the lesser of both is found, and is after `past`
record IsLesser (past kind : ℕ) (least found : Option ℕ) : Type 0 where
  old : (m : ℕ) → least ≡ Some m → (k : ℕ) × (found ≡ Some k) × (k ≤ m)
  new : past < kind → (k : ℕ) × (found ≡ Some k) × (k ≤ kind)
  after : ((m : ℕ) → least ≡ Some m → past < m) → (k : ℕ) → found ≡ Some k → past < k

is-lesser : (past kind : ℕ) (least : Option ℕ) → IsLesser past kind least (lesser_kind past least kind)
is-lesser past kind None = by (nat_le kind past) refl
  where
    by : (p : Bool) → nat_le kind past ≡ p → IsLesser past kind None (cond p None (Some kind))
    by true e = record {
      old = λ m same. absurd (let clash : None ≡ Some m = same in cc);
      new = λ less. let low = leb-true kind past e in absurd (omega (arith, low, less));
      after = λ before k same. absurd (let clash : None ≡ Some k = same in cc);
    }
    by false e = record {
      old = λ m same. absurd (let clash : None ≡ Some m = same in cc);
      new = λ less. (kind, refl, omega arith);
      after = λ before k same. let is : kind ≡ k = some-same kind k same in let high = leb-false kind past e in omega (arith, high, is);
    }
is-lesser past kind (Some m) = by (nat_le kind past) (nat_le m kind) refl refl
  where
    by : (p q : Bool) → nat_le kind past ≡ p → nat_le m kind ≡ q → IsLesser past kind (Some m) (cond p (Some m) (cond q (Some m) (Some kind)))
    by true q e f = record {
      old = λ n same. let is : m ≡ n = some-same m n same in (m, refl, omega (arith, is));
      new = λ less. let low = leb-true kind past e in absurd (omega (arith, low, less));
      after = λ before k same. before k same;
    }
    by false true e f = record {
      old = λ n same. let is : m ≡ n = some-same m n same in (m, refl, omega (arith, is));
      new = λ less. (m, refl, leb-true m kind f);
      after = λ before k same. before k same;
    }
    by false false e f = record {
      old = λ n same. let is : m ≡ n = some-same m n same in let less = leb-false m kind f in (kind, refl, omega (arith, is, less));
      new = λ less. (kind, refl, omega arith);
      after = λ before k same. let is : kind ≡ k = some-same kind k same in let high = leb-false kind past e in omega (arith, high, is);
    }

-- n is the least kind after `past`
pub record IsFirstAfter (past : ℕ) (found : Option ℕ) (n : ℕ) (vs : List Var) : Type 0 where
  pub old : (m : ℕ) → found ≡ Some m → n ≤ m
  pub each : (v : Var) → Contains vs v → past < v.kind → n ≤ v.kind
  pub after : ((m : ℕ) → found ≡ Some m → past < m) → past < n

pub first-after : (past : ℕ) (least : Option ℕ) (n : ℕ) (vs : List Var) → next_kind past least vs ≡ Some n → IsFirstAfter past least n vs
first-after past least n [] is = record {
  old = λ m same. let e : n ≡ m = some-same n m (sym is ∙ same) in omega (arith, e);
  each = λ v has less. let below = has.1 in absurd (omega arith);
  after = λ before. before n is;
}
first-after past least n (v ∷ vs) is =
    let rest = first-after past (lesser_kind past least v.kind) n vs is in
    let here = is-lesser past v.kind least in
    record {
      old = λ m same. let found = here.old m same in let more = rest.old found.0 found.1 in omega (arith, more, found.2);
      each = λ w has less. elim (contains_cases v vs w has) [
        | inl same ↦ (let e : v.kind ≡ w.kind = ap (λ (x : Var). x.kind) same in
            let found = here.new (omega (arith, e, less)) in let more = rest.old found.0 found.1 in omega (arith, more, found.2, e))
        | inr others ↦ rest.each w others less
      ];
      after = λ before. rest.after (here.after before);
    }

pub later : (kind next : ℕ) (vs : List Var) → next_kind kind None vs ≡ Some next → kind < next
later kind next vs is = (first-after kind None next vs is).after (λ m same. absurd (let clash : None ≡ Some m = same in cc))

-- ---- the variables that are added

of-kind : (kind : ℕ) (v : Var) → v.kind ≡ kind → is_of_kind kind v ≡ true
of-kind kind v is = eq-eqb v.kind kind is

before-kind : (kind : ℕ) (v : Var) → v.kind < kind → is_before_kind kind v ≡ true
before-kind kind v less = lt-ltb v.kind kind less

-- before the first kind nothing is added
pub none-added : (old all : List Var) → AreSameVariables old (old ++ filter (is_before_kind 0) all)
none-added old all v = (
  λ has. Contains-append_left old (filter (is_before_kind 0) all) v has,
  λ has. elim (Contains-append_cases old (filter (is_before_kind 0) all) v has) [
    | inl left ↦ left
    | inr right ↦ (let both = contains_from_filter (is_before_kind 0) all v right in let less = ltb-true v.kind 0 both.1 in absurd (omega (arith, less)))
  ],
)

-- the variables of one kind more
pub kind-added : (kind next : ℕ) (old now all : List Var) → AreSameVariables now (old ++ filter (is_before_kind kind) all) → next_kind kind None all ≡ Some next
    → AreSameVariables (now ++ filter (is_of_kind kind) all) (old ++ filter (is_before_kind next) all)
kind-added kind next old now all before is v =
    let first = first-after kind None next all is in
    let less : kind < next = later kind next all is in (
      λ has. elim (Contains-append_cases now (filter (is_of_kind kind) all) v has) [
        | inl left ↦ elim (Contains-append_cases old (filter (is_before_kind kind) all) v ((before v).0 left)) [
          | inl there ↦ Contains-append_left old (filter (is_before_kind next) all) v there
          | inr earlier ↦ (let both = contains_from_filter (is_before_kind kind) all v earlier in
              Contains-append_right old (filter (is_before_kind next) all) v (contains_filter (is_before_kind next) all v both.0 (before-kind next v (let low = ltb-true v.kind kind both.1 in omega (arith, low, less)))))
        ]
        | inr right ↦ (let both = contains_from_filter (is_of_kind kind) all v right in
            let e : v.kind ≡ kind = eqb-true v.kind kind both.1 in
            Contains-append_right old (filter (is_before_kind next) all) v (contains_filter (is_before_kind next) all v both.0 (before-kind next v (omega (arith, e, less)))))
      ],
      λ has. elim (Contains-append_cases old (filter (is_before_kind next) all) v has) [
        | inl there ↦ Contains-append_left now (filter (is_of_kind kind) all) v ((before v).1 (Contains-append_left old (filter (is_before_kind kind) all) v there))
        | inr right ↦ (let both = contains_from_filter (is_before_kind next) all v right in
            elim (cases_lt v.kind kind) [
              | inl earlier ↦ Contains-append_left now (filter (is_of_kind kind) all) v ((before v).1 (Contains-append_right old (filter (is_before_kind kind) all) v (contains_filter (is_before_kind kind) all v both.0 (before-kind kind v earlier))))
              | inr not_earlier ↦ elim (cases_lt kind v.kind) [
                | inl later ↦ (let past = first.each v both.0 later in let low = ltb-true v.kind next both.1 in absurd (omega (arith, past, low)))
                | inr not_later ↦ Contains-append_right now (filter (is_of_kind kind) all) v (contains_filter (is_of_kind kind) all v both.0 (of-kind kind v (omega (arith, not_earlier, not_later))))
              ]
            ])
      ],
    )

-- after the last kind all are added
pub all-added : (kind : ℕ) (old now all : List Var) → AreSameVariables now (old ++ filter (is_before_kind kind) all) → next_kind kind None all ≡ None
    → AreSameVariables (now ++ filter (is_of_kind kind) all) (old ++ all)
all-added kind old now all before is v =
    let none = none-after kind None all is in (
      λ has. elim (Contains-append_cases now (filter (is_of_kind kind) all) v has) [
        | inl left ↦ elim (Contains-append_cases old (filter (is_before_kind kind) all) v ((before v).0 left)) [
          | inl there ↦ Contains-append_left old all v there
          | inr earlier ↦ Contains-append_right old all v (contains_from_filter (is_before_kind kind) all v earlier).0
        ]
        | inr right ↦ Contains-append_right old all v (contains_from_filter (is_of_kind kind) all v right).0
      ],
      λ has. elim (Contains-append_cases old all v has) [
        | inl there ↦ Contains-append_left now (filter (is_of_kind kind) all) v ((before v).1 (Contains-append_left old (filter (is_before_kind kind) all) v there))
        | inr right ↦ elim (cases_lt v.kind kind) [
          | inl earlier ↦ Contains-append_left now (filter (is_of_kind kind) all) v ((before v).1 (Contains-append_right old (filter (is_before_kind kind) all) v (contains_filter (is_before_kind kind) all v right (before-kind kind v earlier))))
          | inr not_earlier ↦ (let low = none.1 v right in Contains-append_right now (filter (is_of_kind kind) all) v (contains_filter (is_of_kind kind) all v right (of-kind kind v (omega (arith, not_earlier, low)))))
        ]
      ],
    )
