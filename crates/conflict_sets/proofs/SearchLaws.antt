-- What is known goes on from trial to trial.
use Rattle.conflict_sets.proofs.Common.{◌≡◌, Bool, true, false, not, ◌&&◌, List, [], ◌∷◌, ◌++◌, inl, inr, map, filter, ap, ap₂, ◌∙◌, subst, append_assoc, Contains, Option, is_eq, map-append, Row, RowName, Var, keys_of, row_name_cmp, both_passed, Contains-from_Has, Has, Has-filter, Has-from_Contains, Has-map, append_parts, filter_parts, map_parts, IsProblem, is_unequal, IsPlan, IsRefutation, plan_cost, refl, row_name_cmp_total, Values, Multipliers, IsWholePlan, inequalities, AreWithin, IsFinding, Finding, Plan, Refutation, IsSearched, list_after, names_known, needed_after, needed_name, rows_with, Needed, is_listed, is_other, listed_names, filter-ascends, name_itself}
use Rattle.conflict_sets.proofs.PartLaws.{fewer-met}
use Rattle.conflict_sets.proofs.RowLists.{inequality-named, inequality-row, without-one}

has-more : (xs : List RowName) (c : RowName) (ws : List RowName) (u : RowName) → Has (xs ++ ws) u → Has (xs ++ c ∷ ws) u
has-more [] c ws u h = inr h
has-more (x ∷ xs) c ws u (inl e) = inl e
has-more (x ∷ xs) c ws u (inr h) = inr (has-more xs c ws u h)

has-fewer : (xs : List RowName) (c : RowName) (ws : List RowName) (u : RowName) → (c ≡ u → ⊥) → Has (xs ++ c ∷ ws) u → Has (xs ++ ws) u
has-fewer [] c ws u apart (inl e) = absurd (apart e)
has-fewer [] c ws u apart (inr h) = h
has-fewer (x ∷ xs) c ws u apart (inl e) = inl e
has-fewer (x ∷ xs) c ws u apart (inr h) = inr (has-fewer xs c ws u apart h)

more : (needed : List Needed) (c : RowName) (left : List RowName) (u : RowName) → Contains (names_known needed left) u → Contains (names_known needed (c ∷ left)) u
more needed c left u h = Contains-from_Has (names_known needed (c ∷ left)) u (has-more (map needed_name needed) c left u (Has-from_Contains (names_known needed left) u h))

fewer : (needed : List Needed) (c : RowName) (left : List RowName) (u : RowName) → (c ≡ u → ⊥) → Contains (names_known needed (c ∷ left)) u → Contains (names_known needed left) u
fewer needed c left u apart h = Contains-from_Has (names_known needed left) u (has-fewer (map needed_name needed) c left u apart (Has-from_Contains (names_known needed (c ∷ left)) u h))

-- a listed name that isn't another one
pub other-parts : (multipliers : Multipliers) (c u : RowName) → is_other multipliers c u ≡ true → (is_listed multipliers u ≡ true) × (c ≡ u → ⊥)
other-parts multipliers c u h =
    let parts = both_passed (is_listed multipliers u) (not (is_eq (row_name_cmp u c))) h in
    (parts.0, λ e. let alike : is_eq (row_name_cmp u c) ≡ true = rw (e, name_itself u) refl in absurd (cc (parts.1, ap not alike)))

module _ (rows : List Row) (vars : List Var) (multipliers : Multipliers) (needed : List Needed) (name : RowName) (left : List RowName) (s : IsSearched rows vars multipliers needed (name ∷ left)) where
  pub search-skips : is_listed multipliers name ≡ false → IsSearched rows vars multipliers needed left
  search-skips h = record {
    refutation = s.refutation;
    ascending = without-one (map needed_name needed) name left s.ascending;
    among = λ u k. s.among u (more needed name left u k);
    listed = λ u there is. fewer needed name left u (λ e. let no : is_listed multipliers u ≡ false = rw e at h in absurd (cc (is, no))) (s.listed u there is);
    plans = s.plans;
  }

  search-drops : (made : Multipliers) → IsRefutation rows vars made → AreWithin (is_other multipliers name) rows made → IsSearched rows vars made needed left
  search-drops made refuted within = record {
    refutation = refuted;
    ascending = without-one (map needed_name needed) name left s.ascending;
    among = λ u k. s.among u (more needed name left u k);
    listed = λ u there is.
        let parts = other-parts multipliers name u (within u there is) in
        fewer needed name left u parts.1 (s.listed u there parts.0);
    plans = λ one k.
        let before = s.plans one k in
        record {
          whole = before.whole;
          some = before.some;
          meets = λ q x are. fewer-met rows vars (is_other made one.0) (is_other multipliers one.0) q x (λ u there is. still one.0 u there is) (before.meets q x are);
        };
  }
    where
      still : (c u : RowName) → Has (inequalities rows) u → is_other made c u ≡ true → is_other multipliers c u ≡ true
      still c u there is =
          let parts = both_passed (is_listed made u) (not (is_eq (row_name_cmp u c))) is in
          let listed = other-parts multipliers name u (within u (Contains-from_Has (inequalities rows) u there) parts.0) in
          ap₂ (λ a b. a && b) listed.0 parts.1

  moved : (plan : Values) → names_known (needed ++ (name, plan) ∷ []) left ≡ names_known needed (name ∷ left)
  moved plan = ap (λ ns. ns ++ left) (map-append needed_name needed ((name, plan) ∷ [])) ∙ append_assoc (map needed_name needed) (name ∷ []) left

  search-needs : (plan : Values) → IsPlan (rows_with (is_other multipliers name) rows) vars plan (plan_cost vars plan) → keys_of plan ≡ vars → IsSearched rows vars multipliers (needed ++ (name, plan) ∷ []) left
  search-needs plan found whole = record {
    refutation = s.refutation;
    ascending = rw (moved plan) s.ascending;
    among = λ u k. s.among u (rw (moved plan) at k);
    listed = λ u there is. rw (moved plan) (s.listed u there is);
    plans = λ one k. elim (append_parts needed ((name, plan) ∷ []) one (Has-from_Contains (needed ++ (name, plan) ∷ []) one k)) [
      | inl before ↦ s.plans one (Contains-from_Has needed one before)
      | inr now ↦ last one now
    ];
  }
    where
      last : (one : Needed) → Has ((name, plan) ∷ []) one → IsWholePlan (rows_with (is_other multipliers one.0) rows) vars one.1
      last one (inl e) = subst (λ (n : Needed). IsWholePlan (rows_with (is_other multipliers n.0) rows) vars n.1) e (record { whole = whole; some = found.some; meets = found.meets })
      last one (inr h) = absurd h

  goes : (finding : Finding) → IsFinding (is_other multipliers name) rows vars finding → IsSearched rows vars (list_after finding multipliers) (needed_after name finding needed) left
  goes (Plan plan) worth = search-needs plan worth.0 worth.1
  goes (Refutation made) worth = search-drops made worth.0 worth.1

  pub search-goes : (finding : Finding) (new : Multipliers) (now : List Needed) → new ≡ list_after finding multipliers → now ≡ needed_after name finding needed → IsFinding (is_other multipliers name) rows vars finding
      → IsSearched rows vars new now left
  search-goes finding new now e f worth = rw (e, f) (goes finding worth)

-- the first list
pub search-starts : (rows : List Row) (defs : List (Option Var)) (vars : List Var) (made : Multipliers) → IsProblem rows defs vars → IsRefutation rows vars made → IsSearched rows vars made [] (listed_names made rows)
search-starts rows defs vars made problem refuted = record {
  refutation = refuted;
  ascending = filter-ascends row_name_cmp row_name_cmp_total (λ (r : Row). r.name) test rows problem.named;
  among = λ u k.
      let found = map_parts (λ (r : Row). r.name) (filter test rows) u (Has-from_Contains (listed_names made rows) u k) in
      let parts = filter_parts test rows found.0 found.1 in
      let unequal = both_passed (is_unequal found.0.sense) (is_listed made found.0.name) parts.1 in
      Contains-from_Has (inequalities rows) u (subst (Has (inequalities rows)) found.2 (inequality-named rows found.0 parts.0 unequal.0));
  listed = λ u there is.
      let row = inequality-row rows u (Has-from_Contains (inequalities rows) u there) in
      let passes : test row.0 ≡ true = ap₂ (λ a b. a && b) row.2 (ap (is_listed made) row.3 ∙ is) in
      Contains-from_Has (listed_names made rows) u (subst (Has (listed_names made rows)) row.3 (Has-map (λ (r : Row). r.name) (filter test rows) row.0 (Has-filter test rows row.0 row.1 passes)));
  plans = λ one k. absurd (Has-from_Contains [] one k);
}
  where
    test : Row → Bool
    test row = is_unequal row.sense && is_listed made row.name
