-- Where every inequality of the list was tried, what is left of it is a conflict.
use Rattle.conflict_sets.proofs.Common.{◌≡◌, ◌≢◌, ℕ, ℤ, pos, ◌*ℤ◌, Bool, true, false, not, ◌&&◌, List, [], ◌∷◌, inl, inr, map, refl, sym, ap, ap₂, ◌∙◌, subst, append-nil, arith, Contains, Option, unsigned_abs, eqb-true, ints, is_eq, Rational, value_of, Frac, *ℤ_cancel, nonzero_of_pos, zero-*ℤ, Row, RowName, Var, is_zero, keys_of, row_name_cmp, value_in, valued, IsOver, both_passed, Contains-from_Has, Has, Has-filter, Has-from_Contains, Has-map, filter_parts, map_parts, IsProblem, AdmitsNone, AreMultipliersOver, Refutes, HasVariablesOf, Refutes-none, is_unequal, by_test, row_name_cmp_total, Values, Multipliers, AreNeeded, IsConflict, IsWholePlan, inequalities, is_member, is_other_member, IsSearched, names_known, needed_name, is_taken, rows_with, Needed, is_listed, is_other, member_of, plan_of, still_needed, Conflict, filter-ascends, filter-names, name_itself, same_name}
use Rattle.conflict_sets.proofs.PartLaws.{fewer-met, part-refuted, part-variables}
use Rattle.conflict_sets.proofs.RowLists.{inequality-named}

-- ---- members

member-has : (names : List RowName) (u : RowName) → is_member names u ≡ true → Has names u
member-has [] u h = absurd (cc h)
member-has (name ∷ names) u h = by_test (is_eq (row_name_cmp u name)) (λ is. inl (sym (same_name u name is))) (λ is. inr (member-has names u (rw is at h)))

has-member : (names : List RowName) (u : RowName) → Has names u → is_member names u ≡ true
has-member [] u h = absurd h
has-member (name ∷ names) u (inl e) = rw (e, name_itself u) refl
has-member (name ∷ names) u (inr h) = rw (has-member names u h) (by_test (is_eq (row_name_cmp u name)) (λ is. rw is refl) (λ is. rw is refl))

-- ---- lists of members

keys-valued : (es : List (RowName × Frac)) → keys_of (map valued es) ≡ keys_of es
keys-valued [] = refl
keys-valued (e ∷ es) = ap {B = List RowName} (λ ks. e.0 ∷ ks) (keys-valued es)

keys-needed : (m : Multipliers) (still : List Needed) → keys_of (map (member_of m) still) ≡ map needed_name still
keys-needed m [] = refl
keys-needed m (one ∷ still) = ap {B = List RowName} (λ ks. one.0 ∷ ks) (keys-needed m still)

has-valued : (es : List (RowName × Frac)) (e : RowName × Frac) → Has es e → Has (map valued es) (valued e)
has-valued [] e h = absurd h
has-valued (d ∷ es) e (inl i) = inl (ap valued i)
has-valued (d ∷ es) e (inr h) = inr (has-valued es e h)

members-from : (m : Multipliers) (still : List Needed) (e : RowName × Rational) → Has (map (member_of m) still) e → (one : Needed) × Has still one × (member_of m one ≡ e)
members-from m [] e h = absurd h
members-from m (one ∷ still) e (inl i) = (one, inl refl, i)
members-from m (one ∷ still) e (inr h) = let rest = members-from m still e h in (rest.0, inr rest.1, rest.2)

first-of : {A : Type 0} (x y : A) (xs ys : List A) → x ∷ xs ≡ y ∷ ys → x ≡ y
first-of x y xs ys e = cc e

rest-of : {A : Type 0} (x y : A) (xs ys : List A) → x ∷ xs ≡ y ∷ ys → xs ≡ ys
rest-of x y xs ys e = cc e

all-are-needed : (rows : List Row) (vars : List Var) (names : List RowName) (m : Multipliers) (members : List (RowName × Frac)) (plans : List Values) (still : List Needed)
    → map valued members ≡ map (member_of m) still → plans ≡ map plan_of still → ((one : Needed) → Has still one → IsWholePlan (rows_with (is_other_member names one.0) rows) vars one.1) → AreNeeded rows vars names members plans
all-are-needed rows vars names m [] [] [] e f each = tt
all-are-needed rows vars names m [] plans (one ∷ still) e f each = absurd (cc e)
all-are-needed rows vars names m [] (plan ∷ plans) [] e f each = absurd (cc f)
all-are-needed rows vars names m (member ∷ members) plans [] e f each = absurd (cc e)
all-are-needed rows vars names m (member ∷ members) [] (one ∷ still) e f each = absurd (cc f)
all-are-needed rows vars names m (member ∷ members) (plan ∷ plans) (one ∷ still) e f each =
    let name : one.0 ≡ member.0 = sym (ap (λ (p : RowName × Rational). p.0) (first-of (valued member) (member_of m one) (map valued members) (map (member_of m) still) e)) in
    let found : one.1 ≡ plan = sym (first-of plan (plan_of one) plans (map plan_of still) f) in
    let rest : map valued members ≡ map (member_of m) still = rest-of (valued member) (member_of m one) (map valued members) (map (member_of m) still) e in
    let others : plans ≡ map plan_of still = rest-of plan (plan_of one) plans (map plan_of still) f in (
      subst (λ (u : RowName). IsWholePlan (rows_with (is_other_member names u) rows) vars plan) name
          (subst (λ (p : Values). IsWholePlan (rows_with (is_other_member names one.0) rows) vars p) found (each one (inl refl))),
      all-are-needed rows vars names m members plans still rest others (λ o h. each o (inr h)),
    )

-- ---- a multiplier of 0

-- a value that isn't listed is 0 over any number
pub zero-over : (m : Multipliers) (u : RowName) (s y : ℤ) → is_listed m u ≡ false → IsOver s (value_in row_name_cmp m u) y → y ≡ pos 0
zero-over m u s y h over =
    let value : Rational = value_in row_name_cmp m u in
    let top : value.top ≡ pos 0 = by_test value.top h in
    *ℤ_cancel y (pos 0) value.bottom (nonzero_of_pos value.bottom over.positive)
    (over.cross ∙ ap (λ z. z *ℤ s) top ∙ zero-*ℤ s ∙ sym (zero-*ℤ value.bottom))
  where
    by_test : (z : ℤ) → not (is_zero z) ≡ false → z ≡ pos 0
    by_test z h = zero-is z (turned (is_zero z) h)
      where
        turned : (t : Bool) → not t ≡ false → t ≡ true
        turned true h = refl
        turned false h = absurd (cc h)

        zero-is : (z : ℤ) → is_zero z ≡ true → z ≡ pos 0
        zero-is z h = let none : unsigned_abs z ≡ 0 = eqb-true (unsigned_abs z) 0 h in omega (arith, ints)

-- ---- the conflict

module _ (rows : List Row) (defs : List (Option Var)) (vars : List Var) (m : Multipliers) (needed : List Needed) (problem : IsProblem rows defs vars) (s : IsSearched rows vars m needed []) (conflict : Conflict)
    (e : map valued conflict.members.items ≡ map (member_of m) (still_needed m needed)) (f : conflict.plans.items ≡ map plan_of (still_needed m needed)) where
  abbrev still : List Needed
  still = still_needed m needed

  abbrev names : List RowName
  names = keys_of conflict.members.items

  abbrev on_list : Needed → Bool
  on_list one = is_listed m one.0

  names-are : names ≡ map needed_name still
  names-are = sym (keys-valued conflict.members.items) ∙ ap keys_of e ∙ keys-needed m still

  known-are : names_known needed [] ≡ map needed_name needed
  known-are = append-nil (map needed_name needed)

  name-known : (u : RowName) → Has names u → Has (names_known needed []) u
  name-known u h = rw known-are (filter-names row_name_cmp row_name_cmp_total needed_name on_list needed u (rw names-are at h))

  -- an inequality on the list is a member
  listed-member : (u : RowName) → Has (inequalities rows) u → is_listed m u ≡ true → Has names u
  listed-member u there is =
      let one = map_parts needed_name needed u (rw known-are at (Has-from_Contains (names_known needed []) u (s.listed u (Contains-from_Has (inequalities rows) u there) is))) in
      let listed : on_list one.0 ≡ true = ap (is_listed m) one.2 ∙ is in
      rw names-are (subst (Has (map needed_name still)) one.2 (Has-map needed_name still one.0 (Has-filter on_list needed one.0 one.1 listed)))

  -- and a member is on it
  member-listed : (u : RowName) → Has names u → is_listed m u ≡ true
  member-listed u h =
      let one = map_parts needed_name still u (rw names-are at h) in
      ap (is_listed m) (sym one.2) ∙ (filter_parts on_list needed one.0 one.1).1

  member-is : (member : RowName × Frac) → Contains conflict.members.items member → (one : Needed) × Has still one × (member_of m one ≡ valued member)
  member-is member h = members-from m still (valued member) (rw e at (has-valued conflict.members.items member (Has-from_Contains conflict.members.items member h)))

  printed : (member : RowName × Frac) → Contains conflict.members.items member → value_in row_name_cmp m member.0 ≡ value_of member.1
  printed member h =
      let one = member-is member h in
      let name : one.0.0 ≡ member.0 = ap (λ (p : RowName × Rational). p.0) one.2 in
      let value : value_in row_name_cmp m one.0.0 ≡ value_of member.1 = ap (λ (p : RowName × Rational). p.1) one.2 in
      ap (value_in row_name_cmp m) (sym name) ∙ value

  used : (member : RowName × Frac) → Contains conflict.members.items member → (value_of member.1).top ≢ pos 0
  used member h zero_top =
      let one = member-is member h in
      let name : one.0.0 ≡ member.0 = ap (λ (p : RowName × Rational). p.0) one.2 in
      let listed : is_listed m member.0 ≡ true = ap (is_listed m) (sym name) ∙ (filter_parts on_list needed one.0 one.1).1 in
      let none : is_listed m member.0 ≡ false = ap (λ (r : Rational). not (is_zero r.top)) (printed member h) ∙ ap (λ z. not (is_zero z)) zero_top in
      absurd (cc (listed, none))

  abbrev taken : Row → Bool
  taken = is_taken (is_member names)

  -- the rows that aren't taken have the multiplier 0
  nothing-else : (n : ℕ) (y : RowName → ℤ) → AreMultipliersOver n y m → (row : Row) → Has rows row → taken row ≡ false → y row.name ≡ pos 0
  nothing-else n y over row there out =
      by_test (is_unequal row.sense)
      (λ is_a. by_test (is_listed m row.name)
      (λ is_c. let member = has-member names row.name (listed-member row.name (inequality-named rows row there is_a) is_c) in absurd (cc (rw (is_a, member) at out)))
      (λ is_c. zero-over m row.name (pos n) (y row.name) is_c (over.1 row.name)))
      (λ is_a. absurd (cc (rw is_a at out)))

  refutes : (n : ℕ) (y : RowName → ℤ) → AreMultipliersOver n y m → Refutes (rows_with (is_member names) rows) vars n y
  refutes n y over = part-refuted rows vars taken n y (nothing-else n y over) (s.refutation.refutes n y over)

  variables-there : HasVariablesOf (rows_with (is_member names) rows) vars
  variables-there = part-variables taken rows vars problem.listed

  none-left : AdmitsNone (rows_with (is_member names) rows) vars
  none-left q x =
      let some = s.refutation.some in
      Refutes-none (rows_with (is_member names) rows) vars some.over some.number q x problem.ascending variables-there (refutes some.over some.number (some.positive, some.each))

  needed-plan : (one : Needed) → Has still one → IsWholePlan (rows_with (is_other_member names one.0) rows) vars one.1
  needed-plan one h =
      let before = s.plans one (Contains-from_Has needed one (filter_parts on_list needed one h).0) in
      record {
        whole = before.whole;
        some = before.some;
        meets = λ q x are. fewer-met rows vars (is_other_member names one.0) (is_other m one.0) q x (λ u there is. others u is) (before.meets q x are);
      }
    where
      others : (u : RowName) → is_other_member names one.0 u ≡ true → is_other m one.0 u ≡ true
      others u is =
          let parts = both_passed (is_member names u) (not (is_eq (row_name_cmp u one.0))) is in
          ap₂ (λ a b. a && b) (member-listed u (member-has names u parts.0)) parts.1

  pub conflict-found : IsConflict rows vars conflict
  conflict-found = record {
    ascending =
        rw names-are (filter-ascends row_name_cmp row_name_cmp_total needed_name on_list needed (rw known-are at s.ascending));
    among = λ u h. s.among u (Contains-from_Has (names_known needed []) u (name-known u (Has-from_Contains names u h)));
    used = used;
    refuted = record { multipliers = m; some = s.refutation.some; printed = printed; refutes = refutes; none = none-left };
    needed = all-are-needed rows vars names m conflict.members.items conflict.plans.items still e f needed-plan;
  }
