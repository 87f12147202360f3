-- Tables with another value at one place mean the data with that value at one index.
use Rattle.std.proofs.Common.{◌≡◌, ◌≢◌, ℕ, ◌+◌, ◌-◌, ◌<◌, ◌≤◌, ◌∷◌, ◌&&◌, Bool, true, false, cond, List, [], ℤ, pos, Option, Some, None, length, drop, nat_eq, get_or, refl, sym, ap, ap₂, ◌∙◌, subst, inl, inr, arith, All}
use Rattle.std.specs.Prelude.{min}
use Rattle.param_tables.proofs.Common.{pointwise, find, zip, IsStrictlyIncreasing, option_map, option_or, ◌⊎◌, Contains, IsSomeAnd, if◌then◌else◌, bytes_eq, cases_eq, cases_lt, eq-eqb, eqb-true, ne_eqb, drop_all, drop_more, get_or_default, slice_get-get_or, get_or-zip, length-zip, Data, Given, IsUsedParam, default_of, given_at, indices_of, is_given_at, value_at, value_of_none, SetLists, range_of, subscript_sets, subscripts_are_sets, AreComplete, IsValueIn, given_value, with_given, with_value_at, AreDataWith, AreTablesWith, IsCopyOf, IsTableWith, GiveTheSame, AreTablesFor, HaveShapes, IsTable, IsUsable, entries_of, given_in, AreKept, data_by, facts_of, ParamTable}
use Rattle.param_tables.proofs.CanonicalLaws.{canonical_one, default_canonical, given_canonical, value_canonical}
use Rattle.param_tables.proofs.EntryLaws.{given_at_place, given_none}
use Rattle.param_tables.proofs.FactLaws.{tables_for_data}
use Rattle.param_tables.proofs.GivenLaws.{names_same}
use Rattle.param_tables.proofs.IndexLaws.{indices_apart, names_apart_from}
use Rattle.param_tables.proofs.KeptLaws.{complete_canonical}
use Rattle.param_tables.proofs.ViewLaws.{usable}

-- ---- the values given, from a place of their list on

pub given_from : (places : List ℕ) (values : List ℤ) (i q : ℕ) → i < length places → i < length values
    → given_in (drop i (zip places values)) q ≡ (if nat_eq q (get_or places i 0) then Some (get_or values i (pos 0)) else given_in (drop (i + 1) (zip places values)) q)
given_from places values i q below inside =
    let first : drop i (zip places values) ≡ get_or (zip places values) i (0, pos 0) ∷ drop (i + 1) (zip places values) = drop_more (zip places values) i (0, pos 0) (rw (length-zip places values) (omega (arith, below, inside))) in
    let at : get_or (zip places values) i (0, pos 0) ≡ (get_or places i 0, get_or values i (pos 0)) = get_or-zip places values i (0, pos 0) below inside in
    ap (λ es. given_in es q) (first ∙ ap (λ e. e ∷ drop (i + 1) (zip places values)) at)

-- past the last of them nothing is given
pub given_past : (places : List ℕ) (values : List ℤ) (i q : ℕ) → i ≡ min (length places) (length values) → given_in (drop i (zip places values)) q ≡ None
given_past places values i q all = ap (λ es. given_in es q) (drop_all i (zip places values) (rw (length-zip places values) (omega (arith, all))))

-- ---- one table

-- nothing is given past the places of the indices
pub none_past : (size : ℕ) (table : ParamTable) → IsTable size table → (q : ℕ) → size ≤ q → given_in (entries_of table) q ≡ None
none_past size table is q past = given_none table.places.items table.values.items q (λ k below same. let short = is.below k 0 below in omega (arith, short, same))

pub some_none : (v : ℤ) → Some v ≡ None → ⊥
some_none v e = cc

-- with another value it has the shape of the parameter still
shape_with : (size place : ℕ) (v : ℤ) (old new : ParamTable) → place < size → IsTable size old → IsTableWith place v old new → IsTable size new
shape_with size place v old new inside is with = record { ascending = with.ascending; long = with.long; below = below }
  where
    below : All (λ q. q < size) new.places.items
    below k d here = elim (cases_lt (get_or new.places.items k d) size) [
      | inl less ↦ less
      | inr past ↦
          let q = get_or new.places.items k 0 in
          let at : get_or new.places.items k d ≡ q = get_or_default new.places.items k d 0 here in
          let short : k < length new.values.items = omega (arith, with.long) in
          let some : given_in (entries_of new) q ≡ Some (get_or new.values.items k (pos 0)) = given_at_place new.places.items new.values.items k with.ascending with.long here ∙ slice_get-get_or new.values.items k (pos 0) short in
          let other : q ≢ place = λ e. omega (arith, past, at, e, inside) in
          let none : given_in (entries_of new) q ≡ None = with.given q ∙ ap (λ b. if b then Some v else given_in (entries_of old) q) (ne_eqb q place other) ∙ none_past size old is q (omega (arith, past, at)) in
          absurd (some_none (get_or new.values.items k (pos 0)) (sym some ∙ none))
    ]

shape_of_copy : (size : ℕ) (old new : ParamTable) → IsTable size old → IsCopyOf old new → IsTable size new
shape_of_copy size old new is copy = record {
  ascending = subst IsStrictlyIncreasing (sym copy.places) is.ascending;
  long = ap length copy.values ∙ is.long ∙ sym (ap length copy.places);
  below = subst (λ (places : List ℕ). All (λ q. q < size) places) (sym copy.places) is.below;
}

given_of_copy : (place : ℕ) (old new : ParamTable) → IsCopyOf old new → given_in (entries_of new) place ≡ given_in (entries_of old) place
given_of_copy place old new copy = ap₂ (λ ps vs. given_in (zip ps vs) place) copy.places copy.values

given_with : (place : ℕ) (v : ℤ) (old new : ParamTable) → IsTableWith place v old new → given_in (entries_of new) place ≡ Some v
given_with place v old new with = with.given place ∙ ap (λ b. if b then Some v else given_in (entries_of old) place) (eq-eqb place place refl)

given_elsewhere : (place q : ℕ) (v : ℤ) (old new : ParamTable) → q ≢ place → IsTableWith place v old new → given_in (entries_of new) q ≡ given_in (entries_of old) q
given_elsewhere place q v old new other with = with.given q ∙ ap (λ b. if b then Some v else given_in (entries_of old) q) (ne_eqb q place other)

-- ---- the data with a value

module _ (d : Data) (p : ℕ) (index : List (List ℕ)) (v : ℤ) where
  -- the value stands first
  abbrev is_found : ℕ → List (List ℕ) → Bool
  is_found q other = nat_eq p q && pointwise bytes_eq index other

  pub given_here : given_at (with_given d p index v) p index ≡ Some v
  given_here =
      let found : is_found p index ≡ true = ap (λ b. b && pointwise bytes_eq index index) (eq-eqb p p refl) ∙ (names_same index index).1 refl in
      ap (λ b. option_map (λ (g : Given). g.value) (cond b (Some (given_value p index v)) (find (is_given_at p index) d.given))) found

  -- it is looked for, or it isn't
  here_or_beside : (q : ℕ) (other : List (List ℕ)) → ((q ≡ p) × (other ≡ index)) ⊎ (is_found q other ≡ false)
  here_or_beside q other = by (nat_eq p q) (pointwise bytes_eq index other) refl refl
    where
      by : (a b : Bool) → nat_eq p q ≡ a → pointwise bytes_eq index other ≡ b → ((q ≡ p) × (other ≡ index)) ⊎ ((a && b) ≡ false)
      by true true same same_names = inl (sym (eqb-true p q same), sym ((names_same index other).0 same_names))
      by true false same names = inr refl
      by false b same names = inr refl

  not_found : (q : ℕ) (other : List (List ℕ)) → is_found q other ≡ false → given_at (with_given d p index v) q other ≡ given_at d q other
  not_found q other beside = ap (λ b. option_map (λ (g : Given). g.value) (cond b (Some (given_value p index v)) (find (is_given_at q other) d.given))) beside

  pub given_beside : (q : ℕ) (other : List (List ℕ)) → (q ≡ p → other ≡ index → ⊥) → given_at (with_given d p index v) q other ≡ given_at d q other
  given_beside q other apart = elim (here_or_beside q other) [
    | inl here ↦ absurd (apart here.0 here.1)
    | inr beside ↦ not_found q other beside
  ]

  value_by : ℕ → Option ℤ → Option ℤ
  value_by q given = option_or given (option_or (default_of d q) (value_of_none q))

  -- the data are those with the value
  pub data_with : IsUsedParam d p → Contains (indices_of d.sets p) index → AreDataWith p index v d (with_value_at d p index v)
  unfolding value_by
  data_with used has = record {
    sets = refl;
    second = refl;
    here = value_canonical (with_given d p index v) p used index has ∙ ap (value_by p) given_here;
    elsewhere = λ q is_used other has_other apart. value_canonical (with_given d p index v) q is_used other has_other ∙ ap (value_by q) (given_beside q other apart);
  }

  -- and are complete where the data are
  pub complete_with : AreComplete d → IsValueIn (range_of p) v → AreComplete (with_value_at d p index v)
  unfolding value_by
  complete_with complete is = complete_canonical (with_given d p index v) (record {
    sets = complete.sets;
    values = λ q used other has. elim (here_or_beside q other) [
      | inl here ↦
          let found : value_at (with_given d p index v) q other ≡ Some v = ap₂ (λ n names. value_at (with_given d p index v) n names) here.0 here.1 ∙ ap (value_by p) given_here in
          subst (λ o. IsSomeAnd o (IsValueIn (range_of q))) (sym found) (subst (λ (n : ℕ). IsValueIn (range_of n) v) (sym here.0) is)
      | inr beside ↦
          let stays : value_at (with_given d p index v) q other ≡ value_at d q other = ap (value_by q) (not_found q other beside) in
          subst (λ o. IsSomeAnd o (IsValueIn (range_of q))) (sym stays) (complete.values q used other has)
    ];
  })

-- ---- all tables

module _ (sets : SetLists) (old new : List ParamTable) (second : Bool) (kept : AreKept sets old second) (p place : ℕ) (v : ℤ) (used : IsUsedParam (facts_of sets old second) p) (inside : place < length (indices_of sets p)) (is : IsValueIn (range_of p) v) (with : AreTablesWith p place v old new) where
  abbrev before : Data
  before = data_by sets old second

  abbrev after : Data
  after = data_by sets new second

  abbrev index : List (List ℕ)
  index = get_or (indices_of sets p) place []

  abbrev wanted : Data
  wanted = with_given (facts_of sets old second) p index v

  -- the table of another parameter is a copy
  copy_of : (q : ℕ) → IsUsable q → q ≢ p → (e : ParamTable) → IsCopyOf (get_or old (q - 1) e) (get_or new (q - 1) e)
  copy_of q usable other e =
      let low = usable.0.0 in
      let high = usable.0.1 in
      let first = used.0.0 in
      let apart : q - 1 ≢ (p - 1) = λ same. other (omega (arith, low, first, same)) in
      with.others (q - 1) (omega (arith, low, high, kept.tabled.all)) apart e

  pub shapes : HaveShapes sets new
  shapes = record { all = with.all ∙ kept.tabled.all; each = each }
    where
      each : (q : ℕ) → IsUsable q → (e : ParamTable) → IsTable (length (indices_of sets q)) (get_or new (q - 1) e)
      each q usable e = elim (cases_eq q p) [
        | inl same ↦
            subst (λ (n : ℕ). IsUsable n → IsTable (length (indices_of sets n)) (get_or new (n - 1) e)) (sym same)
            (λ here. shape_with (length (indices_of sets p)) place v (get_or old (p - 1) e) (get_or new (p - 1) e) inside (kept.tabled.each p here e).shape (with.here e)) usable
        | inr other ↦ shape_of_copy (length (indices_of sets q)) (get_or old (q - 1) e) (get_or new (q - 1) e) (kept.tabled.each q usable e).shape (copy_of q usable other e)
      ]

  tabled : AreTablesFor after new
  tabled = tables_for_data sets new second kept.complete.sets shapes

  module _ (e : ParamTable) where
    -- what was given before at another index, and is given still
    stays : (q i : ℕ) → IsUsedParam before q → i < length (indices_of sets q) → (q ≡ p → i ≢ place) → given_in (entries_of (get_or old (q - 1) e)) i ≡ given_at wanted q (get_or (indices_of sets q) i [])
    stays q i is_used below apart =
        let name = get_or (indices_of sets q) i [] in
        let has : Contains (indices_of sets q) name = (i, below, get_or_default (indices_of sets q) i name [] below) in
        let beside : q ≡ p → name ≡ index → ⊥ = λ same same_name.
        let short : place < length (indices_of sets q) = subst (λ (n : ℕ). place < length (indices_of sets n)) (sym same) inside in
        apart same (indices_apart sets (names_apart_from sets kept.complete.sets) (subscript_sets q) i place (subscripts_are_sets q is_used.0) below short (same_name ∙ ap (λ n. get_or (indices_of sets n) place []) (sym same))) in
        sym ((kept.tabled.each q (usable before q is_used) e).given i below)
        ∙ sym (given_canonical before q name has is_used)
        ∙ sym (given_beside (facts_of sets old second) p index v q name beside)

    at_place : (q i : ℕ) → IsUsedParam before q → i < length (indices_of sets q) → given_in (entries_of (get_or new (q - 1) e)) i ≡ given_at wanted q (get_or (indices_of sets q) i [])
    at_place q i is_used below = elim (cases_eq q p) [
      | inl same ↦
          subst (λ (n : ℕ). IsUsedParam before n → i < length (indices_of sets n) → given_in (entries_of (get_or new (n - 1) e)) i ≡ given_at wanted n (get_or (indices_of sets n) i [])) (sym same)
          (λ used_here below_here. elim (cases_eq i place) [
            | inl at ↦
                ap (given_in (entries_of (get_or new (p - 1) e))) at
                ∙ given_with place v (get_or old (p - 1) e) (get_or new (p - 1) e) (with.here e)
                ∙ sym (ap (λ k. given_at wanted p (get_or (indices_of sets p) k [])) at ∙ given_here (facts_of sets old second) p index v)
            | inr beside ↦ given_elsewhere place i v (get_or old (p - 1) e) (get_or new (p - 1) e) beside (with.here e) ∙ stays p i used_here below_here (λ e_same at. beside at)
          ])
          is_used below
      | inr other ↦ given_of_copy i (get_or old (q - 1) e) (get_or new (q - 1) e) (copy_of q (usable before q is_used) other e) ∙ stays q i is_used below (λ same. absurd (other same))
    ]

    same_default : (q : ℕ) → IsUsedParam before q → (get_or new (q - 1) e).default ≡ (get_or old (q - 1) e).default
    same_default q is_used = elim (cases_eq q p) [
      | inl same ↦ ap (λ (n : ℕ). (get_or new (n - 1) e).default) same ∙ (with.here e).default ∙ ap (λ (n : ℕ). (get_or old (n - 1) e).default) (sym same)
      | inr other ↦ (copy_of q (usable before q is_used) other e).default
    ]

    gives : GiveTheSame after wanted
    gives = record {
      sets = refl;
      second = refl;
      values = λ q is_used other has.
          let i = has.0 in
          let below : i < length (indices_of sets q) = has.1 in
          let name : get_or (indices_of sets q) i [] ≡ other = get_or_default (indices_of sets q) i [] other below ∙ has.2 in
          ap (given_at after q) (sym name) ∙ (tabled.each q (usable after q is_used) e).given i below ∙ at_place q i is_used below ∙ ap (given_at wanted q) name;
      defaults = λ q is_used.
          (tabled.each q (usable after q is_used) e).default
          ∙ same_default q is_used
          ∙ sym ((kept.tabled.each q (usable before q is_used) e).default)
          ∙ sym (default_canonical before q is_used);
    }

    pub facts_with : facts_of sets new second ≡ with_value_at (facts_of sets old second) p index v
    facts_with = canonical_one after wanted gives

    pub kept_with : AreKept sets new second
    kept_with = record {
      tabled = tabled;
      complete = subst AreComplete (sym facts_with) (complete_with (facts_of sets old second) p index v kept.complete is);
    }

-- tables with another value of a parameter that the data use
pub changed : (sets : SetLists) (old new : List ParamTable) (second : Bool) → AreKept sets old second → (p place : ℕ) (v : ℤ) → IsUsedParam (facts_of sets old second) p → place < length (indices_of sets p) → IsValueIn (range_of p) v → AreTablesWith p place v old new
    → AreKept sets new second × (facts_of sets new second ≡ with_value_at (facts_of sets old second) p (get_or (indices_of sets p) place []) v)
changed sets [] new second kept p place v used inside is with = let none = kept.tabled.all in absurd (omega (arith, none))
changed sets (e ∷ old) new second kept p place v used inside is with =
    (kept_with sets (e ∷ old) new second kept p place v used inside is with e, facts_with sets (e ∷ old) new second kept p place v used inside is with e)
