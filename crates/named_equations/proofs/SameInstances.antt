-- Two data that are the same but for numbers that one equation alone reads have the same variables, and say the same of every plan at each instance whose number is the
-- same. Two data that are the same have the same instances and feasible plans too.
use Rattle.std.proofs.Common.{◌≡◌, ℕ, Bool, true, false, cond, not, ◌&&◌, ◌||◌, pos, List, [], ◌∷◌, ◌++◌, map, filter, nat_eq, ap, ap₂, sym, ◌∙◌, refl, subst, arith, inl, inr, eqb-true, true≢false}
use Rattle.std.specs.Prelude.{ℤ, ◌↔◌, Contains, unwrap_or}
use Rattle.std.specs.Cmp.Lexicographic.{pointwise}
use Rattle.named_equations.proofs.Common.{flat_map, list_any, list_all, and_parts, AreSameData, Data, Default, Given, indices_of, subscript_sets, SetLists, is_used, param_at, Index, RowName, Var, EQUATION_COUNT, Holds, defines_kind, definers, exists, exists_at, exists_everywhere, kind_numbers, subscripts_of_kind, equation_numbers, indices, instances, instances_of, is_index, is_instance, name_at, stands_at, subscripts_of, cost, Feasible, MeetsEach, says, Has, filter_parts}
use Rattle.named_equations.proofs.InstanceTests.{any_has, has_any, Has-instances, indices-pass, range_parts}
use Rattle.named_equations.proofs.PositionsInSets.{AreInSets, are_in_sets}
use Rattle.named_equations.specs.Constants.{constant_of, names_within, stands_by_constant}
use Rattle.named_equations.proofs.SameConstants.{ReadsSame, constants-same}
use Rattle.named_equations.proofs.SameEquations.{SaysSame, all-say}
use Rattle.named_equations.proofs.SameStands.{StandsSame, all-stand}
use Rattle.named_equations.proofs.SameValues.{Agree, AgreeInAll, agree-but, index-within, with_values}
use Rattle.named_equations.proofs.TermMeaning.{at_number}

-- ---- lists

filter-congr : {A : Type 0} (f g : A → Bool) (xs : List A) → ((x : A) → Has xs x → f x ≡ g x) → filter f xs ≡ filter g xs
filter-congr f g [] same = refl
filter-congr f g (x ∷ xs) same =
    ap (λ b. cond b (x ∷ filter f xs) (filter f xs)) (same x (inl refl))
    ∙ ap (λ rest. cond (g x) (x ∷ rest) rest) (filter-congr f g xs (λ y has. same y (inr has)))

flat_map-congr : {A B : Type 0} (f g : A → List B) (xs : List A) → ((x : A) → Has xs x → f x ≡ g x) → flat_map f xs ≡ flat_map g xs
flat_map-congr f g [] same = refl
flat_map-congr f g (x ∷ xs) same = ap₂ (λ y ys. y ++ ys) (same x (inl refl)) (flat_map-congr f g xs (λ y has. same y (inr has)))

any-congr : {A : Type 0} (f g : A → Bool) (xs : List A) → ((x : A) → Has xs x → f x ≡ g x) → list_any f xs ≡ list_any g xs
any-congr f g [] same = refl
any-congr f g (x ∷ xs) same = ap₂ (λ b c. b || c) (same x (inl refl)) (any-congr f g xs (λ y has. same y (inr has)))

-- ---- kinds and the equations that define their variables

-- the equation has the subscripts of the kind
abbrev has_subscripts_of : ℕ → ℕ → Bool
has_subscripts_of kind eq = pointwise nat_eq (subscripts_of_kind kind) (subscripts_of eq)

-- every equation that defines variables of the kind does, unless these exist at every index
abbrev definers_have : ℕ → Bool
definers_have kind = exists_everywhere kind || list_all (has_subscripts_of kind) (definers kind)

all_definers_have : list_all definers_have kind_numbers ≡ true
all_definers_have = refl

all_at : {A : Type 0} (test : A → Bool) (xs : List A) (x : A) → list_all test xs ≡ true → Has xs x → test x ≡ true
all_at test [] x passes has = absurd has
all_at test (y ∷ ys) x passes (inl e) = ap test (sym e) ∙ (and_parts (test y) (list_all test ys) passes).0
all_at test (y ∷ ys) x passes (inr has) = all_at test ys x (and_parts (test y) (list_all test ys) passes).1 has

same_numbers : (xs ys : List ℕ) → pointwise nat_eq xs ys ≡ true → xs ≡ ys
same_numbers [] [] passes = refl
same_numbers [] (y ∷ ys) passes = absurd (true≢false (sym passes))
same_numbers (x ∷ xs) [] passes = absurd (true≢false (sym passes))
same_numbers (x ∷ xs) (y ∷ ys) passes =
    let parts = and_parts (nat_eq x y) (pointwise nat_eq xs ys) passes in
    ap₂ (λ z zs. z ∷ zs) (eqb-true x y parts.0) (same_numbers xs ys parts.1)

-- no variable is defined by an equation that stands only where a number of its own is a limit
none_by_constant : list_all (λ kind. list_all (λ eq. not (stands_by_constant eq)) (definers kind)) kind_numbers ≡ true
none_by_constant = refl

not-true : (b : Bool) → not b ≡ true → b ≡ true → ⊥
not-true true h is = true≢false (sym h)
not-true false h is = true≢false (sym is)

module _ {d : Data} {given : List Given} {defaults : List Default} (same : Agree d given defaults) where
  abbrev other : Data
  other = with_values d given defaults

  -- what the equation alone reads at its index is the same
  abbrev pub IsReadAlike : RowName → Type 0
  IsReadAlike name = constant_of name.eq d name.index ≡ constant_of name.eq other name.index

  -- ---- an instance

  pub stands-but : (name : RowName) → list_any (nat_eq name.eq) equation_numbers ≡ true → is_index d (subscripts_of name.eq) name.index ≡ true → IsReadAlike name
      → stands_at d name.eq name.index ≡ stands_at other name.eq name.index
  stands-but name is_number inside alike =
      let number = range_parts 1 EQUATION_COUNT name.eq (any_has equation_numbers name.eq is_number) in
      at_number (StandsSame same name.index) 1 EQUATION_COUNT name.eq (all-stand same name.index) number.0 (omega (arith, number.1)) (are_in_sets d (subscripts_of name.eq) name.index inside) (λ is. alike)

  -- the tests of an instance
  abbrev pub AreTests : RowName → Type 0
  AreTests name = (list_any (nat_eq name.eq) equation_numbers ≡ true) × ((is_index d (subscripts_of name.eq) name.index ≡ true) × (stands_at d name.eq name.index ≡ true))

  pub tests-of : (name : RowName) → is_instance d name ≡ true → AreTests name
  tests-of name is =
      let tests = and_parts (list_any (nat_eq name.eq) equation_numbers && is_index d (subscripts_of name.eq) name.index) (stands_at d name.eq name.index) is in
      let within = and_parts (list_any (nat_eq name.eq) equation_numbers) (is_index d (subscripts_of name.eq) name.index) tests.0 in
      (within.0, (within.1, tests.1))

  pub instance-but : (name : RowName) → is_instance d name ≡ true → IsReadAlike name → is_instance other name ≡ true
  instance-but name is alike =
      let tests = tests-of name is in
      ap (λ b. list_any (nat_eq name.eq) equation_numbers && is_index d (subscripts_of name.eq) name.index && b) (sym (stands-but name tests.0 tests.1.0 alike)) ∙ is

  pub says-but : (places q : ℕ) (x : Var → ℤ) (name : RowName) → is_instance d name ≡ true → IsReadAlike name → says places d q x name ≡ says places other q x name
  says-but places q x name is alike =
      let tests = tests-of name is in
      let number = range_parts 1 EQUATION_COUNT name.eq (any_has equation_numbers name.eq tests.0) in
      at_number (SaysSame same places q x name.index) 1 EQUATION_COUNT name.eq (all-say same places q x name.index) number.0 (omega (arith, number.1)) (are_in_sets d (subscripts_of name.eq) name.index tests.1.0) alike

  -- ---- variables

  exists_at-kind : (kind : ℕ) (i : Index) (b : Bool) → (b || list_all (has_subscripts_of kind) (definers kind)) ≡ true → list_all (λ eq. not (stands_by_constant eq)) (definers kind) ≡ true
      → is_index d (subscripts_of_kind kind) i ≡ true
      → (b || list_any (λ eq. stands_at d eq i) (definers kind)) ≡ (b || list_any (λ eq. stands_at other eq i) (definers kind))
  exists_at-kind kind i true have none within = refl
  exists_at-kind kind i false have none within =
      any-congr (λ eq. stands_at d eq i) (λ eq. stands_at other eq i) (definers kind)
      (λ eq among.
      let alike : subscripts_of_kind kind ≡ subscripts_of eq = same_numbers (subscripts_of_kind kind) (subscripts_of eq) (all_at (has_subscripts_of kind) (definers kind) eq have among) in
      let number = range_parts 1 EQUATION_COUNT eq (filter_parts (defines_kind kind) equation_numbers eq among).0 in
      at_number (StandsSame same i) 1 EQUATION_COUNT eq (all-stand same i) number.0 (omega (arith, number.1)) (subst (λ subscripts. AreInSets d subscripts i) alike (are_in_sets d (subscripts_of_kind kind) i within))
      (λ is. absurd (not-true (stands_by_constant eq) (all_at (λ n. not (stands_by_constant n)) (definers kind) eq none among) is)))

  exists-within : (b c : Bool) (v : Var) → list_any (nat_eq v.kind) kind_numbers ≡ b → is_index d (subscripts_of_kind v.kind) v.index ≡ c
      → (b && c && exists_at d v.kind v.index) ≡ (b && c && exists_at other v.kind v.index)
  exists-within false c v kind within = refl
  exists-within true false v kind within = refl
  exists-within true true v kind within =
      let has : Has kind_numbers v.kind = any_has kind_numbers v.kind kind in
      exists_at-kind v.kind v.index (exists_everywhere v.kind) (all_at definers_have kind_numbers v.kind all_definers_have has)
      (all_at (λ k. list_all (λ eq. not (stands_by_constant eq)) (definers k)) kind_numbers v.kind none_by_constant has) within

  pub exists-same : (v : Var) → exists d v ≡ exists other v
  exists-same v = exists-within (list_any (nat_eq v.kind) kind_numbers) (is_index d (subscripts_of_kind v.kind) v.index) v refl refl

-- ---- data that are the same in all

module _ {d : Data} {given : List Given} {defaults : List Default} (same : AgreeInAll d given defaults) where
  read-alike : (name : RowName) → list_any (nat_eq name.eq) equation_numbers ≡ true → is_index d (subscripts_of name.eq) name.index ≡ true → IsReadAlike (agree-but same) name
  read-alike name is_number inside =
      let number = range_parts 1 EQUATION_COUNT name.eq (any_has equation_numbers name.eq is_number) in
      at_number (ReadsSame same name.index) 1 EQUATION_COUNT name.eq (constants-same same name.index) number.0 (omega (arith, number.1)) (are_in_sets d (subscripts_of name.eq) name.index inside)

  pub instances-same : instances d ≡ instances (with_values d given defaults)
  instances-same =
      flat_map-congr (instances_of d) (instances_of (with_values d given defaults)) equation_numbers
      (λ eq has.
      let is_number : list_any (nat_eq eq) equation_numbers ≡ true = has_any equation_numbers eq has in
      ap (map (name_at eq))
      (filter-congr (stands_at d eq) (stands_at (with_values d given defaults) eq) (indices d (subscripts_of eq))
      (λ i among.
      let inside : is_index d (subscripts_of eq) i ≡ true = indices-pass d (subscripts_of eq) i among in
      stands-but (agree-but same) (name_at eq i) is_number inside (read-alike (name_at eq i) is_number inside))))

  pub says-same : (places q : ℕ) (x : Var → ℤ) (name : RowName) → is_instance d name ≡ true → says places d q x name ≡ says places (with_values d given defaults) q x name
  says-same places q x name is =
      let tests = tests-of (agree-but same) name is in
      says-but (agree-but same) places q x name is (read-alike name tests.0 tests.1.0)

  -- ---- plans

  meets_each : (places q : ℕ) (x : Var → ℤ) (names : List RowName) → ((name : RowName) → Has names name → says places d q x name ≡ says places (with_values d given defaults) q x name)
      → MeetsEach places d q x names → MeetsEach places (with_values d given defaults) q x names
  meets_each places q x [] say met = tt
  meets_each places q x (name ∷ names) say met = (subst Holds (say name (inl refl)) met.0, meets_each places q x names (λ other has. say other (inr has)) met.1)

  pub feasible : (places q : ℕ) (x : Var → ℤ) → Feasible places d q x → Feasible places (with_values d given defaults) q x
  feasible places q x plan = record {
    positive = plan.positive;
    equations = subst (MeetsEach places (with_values d given defaults) q x) instances-same
        (meets_each places q x (instances d) (λ name has. says-same places q x name ((Has-instances d name).0 has)) plan.equations);
    signs = λ v is fixed. plan.signs v (exists-same (agree-but same) v ∙ is) fixed;
  }

-- ---- any two data that are the same

pub agree : {d e : Data} → AreSameData d e → AgreeInAll d e.given e.defaults
agree {d = d} same = record { values = λ param wanted used is within. ap (λ value. unwrap_or value (pos 0)) (same.values param used (names_within d.sets (subscript_sets param) is) (index-within d param is within)) }

-- the sets of the one are those of the other
pub with_sets : (d e : Data) → d.sets ≡ e.sets → d.second ≡ e.second → with_values d e.given e.defaults ≡ e
with_sets d e same_sets same_second = ap₂ (λ (sets : SetLists) (second : Bool). record { sets = sets; given = e.given; defaults = e.defaults; second = second }) same_sets same_second

pub back : {d e : Data} → AreSameData d e → AreSameData e d
back {d = d} {e = e} same = record {
  sets = sym same.sets;
  second = sym same.second;
  values = λ param used index has. sym (same.values param (used.0, subst (λ (second : Bool). is_used second (param_at param).used ≡ true) (sym same.second) used.1) index (subst (λ (sets : SetLists). Contains (indices_of sets param) index) (sym same.sets) has));
}

pub same-instances : (d e : Data) → AreSameData d e → instances d ≡ instances e
same-instances d e same = instances-same (agree same) ∙ ap instances (with_sets d e same.sets same.second)

pub same-says : (d e : Data) → AreSameData d e → (places q : ℕ) (x : Var → ℤ) (name : RowName) → is_instance d name ≡ true → says places d q x name ≡ says places e q x name
same-says d e same places q x name is = says-same (agree same) places q x name is ∙ ap (λ (f : Data). says places f q x name) (with_sets d e same.sets same.second)

pub same-exists : (d e : Data) → AreSameData d e → (v : Var) → exists d v ≡ exists e v
same-exists d e same v = exists-same (agree-but (agree same)) v ∙ ap (λ (f : Data). exists f v) (with_sets d e same.sets same.second)

pub same-cost : (d e : Data) → AreSameData d e → (x : Var → ℤ) → cost d x ≡ cost e x
same-cost d e same x = ap (λ (f : Data). cost f x) (with_sets d e same.sets same.second)

feasible-over : (d e : Data) → AreSameData d e → (places q : ℕ) (x : Var → ℤ) → Feasible places d q x → Feasible places e q x
feasible-over d e same places q x plan = subst (λ (f : Data). Feasible places f q x) (with_sets d e same.sets same.second) (feasible (agree same) places q x plan)

pub same-feasible : (d e : Data) → AreSameData d e → (places q : ℕ) (x : Var → ℤ) → Feasible places d q x ↔ Feasible places e q x
same-feasible d e same places q x = (feasible-over d e same places q x, feasible-over e d (back same) places q x)
