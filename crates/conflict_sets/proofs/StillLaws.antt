-- An inequality that was needed stays on the list: without it the others have a plan, so that no later refutation does without it.
use Rattle.conflict_sets.proofs.Common.{◌≡◌, ℕ, ℤ, pos, Bool, true, false, not, ◌&&◌, List, [], ◌∷◌, inl, inr, filter, refl, ap, ap₂, ◌∙◌, length, map, sym, Option, Some, is_eq, Row, RowName, Var, row_name_cmp, valued, Contains-from_Has, Has, IsProblem, AreMultipliersOver, Refutes, MeetsAll, Refutes-none, is_unequal, by_test, Multipliers, is_taken, IsConflict, IsSearched, SearchIs, all_needed, member_named, rows_with, IsConflicting, Needed, explanation_seen, found, is_listed, is_other, member_of, plan_of, still_needed, Conflict, same_name}
use Rattle.conflict_sets.specs.declared.searching.Search.{Search}
use Rattle.conflict_sets.proofs.ConflictLaws.{conflict-found, zero-over}
use Rattle.conflict_sets.proofs.PairLaws.{paired-members, paired-plans}
use Rattle.conflict_sets.proofs.PartLaws.{fewer-met, part-refuted, part-variables}

filter-all : {A : Type 0} (p : A → Bool) (xs : List A) → ((x : A) → Has xs x → p x ≡ true) → filter p xs ≡ xs
filter-all p [] h = refl
filter-all {A} p (x ∷ xs) h = rw (h x (inl refl)) (ap {B = List A} (λ ys. x ∷ ys) (filter-all p xs (λ y k. h y (inr k))))

module _ (rows : List Row) (defs : List (Option Var)) (vars : List Var) (m : Multipliers) (needed : List Needed) (problem : IsProblem rows defs vars) (s : IsSearched rows vars m needed []) where
  abbrev taken : Row → Bool
  taken = is_taken (is_listed m)

  nothing-else : (n : ℕ) (y : RowName → ℤ) → AreMultipliersOver n y m → (row : Row) → Has rows row → taken row ≡ false → y row.name ≡ pos 0
  nothing-else n y over row there out = by_test (is_listed m row.name)
      (λ is. absurd (by_test (is_unequal row.sense) (λ t. cc (rw (t, is) at out)) (λ t. cc (rw t at out))))
      (λ is. zero-over m row.name (pos n) (y row.name) is (over.1 row.name))

  -- no plan meets the equations and the list
  none-left : (q : ℕ) (x : Var → ℤ) → ¬ (MeetsAll (rows_with (is_listed m) rows) vars q x)
  none-left q x =
      let some = s.refutation.some in
      let refutes : Refutes (rows_with (is_listed m) rows) vars some.over some.number =
      part-refuted rows vars taken some.over some.number (nothing-else some.over some.number (some.positive, some.each)) (s.refutation.refutes some.over some.number (some.positive, some.each)) in
      Refutes-none (rows_with (is_listed m) rows) vars some.over some.number q x problem.ascending (part-variables taken rows vars problem.listed) refutes

  -- a listed name isn't one that isn't listed
  apart : (c u : RowName) → is_listed m c ≡ false → is_listed m u ≡ true → is_other m c u ≡ true
  apart c u out is = by_test (is_eq (row_name_cmp u c))
      (λ same. let no : is_listed m u ≡ false = ap (is_listed m) (same_name u c same) ∙ out in absurd (cc (is, no)))
      (λ same. ap₂ (λ a b. a && not b) is same)

  still-listed : (one : Needed) → Has needed one → is_listed m one.0 ≡ true
  still-listed one h = by_test (is_listed m one.0) (λ is. is)
      (λ is.
      let plan = s.plans one (Contains-from_Has needed one h) in
      let some = plan.some in
      absurd
      (none-left some.over some.number
      (fewer-met rows vars (is_listed m) (is_other m one.0) some.over some.number (λ u there listed. apart one.0 u is listed) (plan.meets some.over some.number (some.positive, some.each)))))

  pub still-all : still_needed m needed ≡ needed
  still-all = filter-all (λ one. is_listed m one.0) needed still-listed

-- ---- at the end of a search

module _ (rows : List Row) (defs : List (Option Var)) (vars : List Var) (problem : IsProblem rows defs vars) (search : Search) (even : length search.names.items ≡ length search.plans.items) (known : SearchIs rows vars search []) (conflict : Conflict)
    (e : map valued conflict.members.items ≡ map (member_named search.multipliers) search.names.items) (f : conflict.plans.items ≡ search.plans.items) where
  abbrev last : Multipliers
  last = search.multipliers

  abbrev all : List Needed
  all = all_needed search

  still : still_needed last all ≡ all
  still = still-all rows defs vars last all problem known

  members : map valued conflict.members.items ≡ map (member_of last) (still_needed last all)
  members = e ∙ sym (paired-members last search.names.items search.plans.items even) ∙ ap (map (member_of last)) (sym still)

  plans : conflict.plans.items ≡ map plan_of (still_needed last all)
  plans = f ∙ sym (paired-plans search.names.items search.plans.items even) ∙ ap (map plan_of) (sym still)

  -- what is left of the list is what was found, and is a conflict
  pub search-found : explanation_seen (Some conflict) ≡ found last all
  search-found = ap₂ IsConflicting members plans

  pub search-conflict : IsConflict rows vars conflict
  search-conflict = conflict-found rows defs vars last all problem known conflict members plans
