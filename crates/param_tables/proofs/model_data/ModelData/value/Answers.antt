-- The index by names stands at a place, and the table is the parameter's. A table without places says the same of every place.
use Rattle.param_tables.proofs.Common.{◌≡◌, ℕ, zero, suc, ◌+◌, ◌*◌, ◌-◌, ◌<◌, ◌≤◌, List, [], length, get_or, take, refl, sym, ap, ◌∙◌, subst, add-one, arith, IsSomeAnd, eqb-true, nil_from_length, take_all, AllZip-long, IsUsedParam, value_at, SetLists, members, range_of, subscript_sets, Built, IsValueIn, IsPlaceOf, ArePositions, names_at, names_over, table_value, value_else, facts_of, ParamTable}
use Rattle.param_tables.proofs.PlaceLaws.{place_none, place_step, position_within, names_over-more}
use Rattle.param_tables.proofs.ViewLaws.{value_kept, value_complete}
use Rattle.param_tables.proofs.model_data.ModelData.value.Goals as goal

-- each index has a place: found as the code finds it, one subscript after another
has_place_upto : (sets : SetLists) (ks is : List ℕ) → ArePositions sets ks is → (n : ℕ) → n ≤ length ks → (place : ℕ) × IsPlaceOf sets (take n ks) (names_over sets (take n ks) (take n is)) place
has_place_upto sets ks is all zero h = (0, place_none sets)
has_place_upto sets ks is all (suc n) h =
    let so_far = has_place_upto sets ks is all n (omega arith) in
    let below : n < length ks = omega arith in
    let long : length is ≡ length ks = AllZip-long (λ k i. i < length (members sets k)) ks is all in
    let inside = position_within sets ks is n all below in
    let next = place_step sets ks (names_over sets (take n ks) (take n is)) (names_over sets (take (n + 1) ks) (take (n + 1) is)) n so_far.0 (get_or is n 0) below inside (names_over-more sets ks is n long below) so_far.1 in
    let place : ℕ = so_far.0 * length (members sets (get_or ks n 0)) + get_or is n 0 in
    (place, subst (λ m. IsPlaceOf sets (take m ks) (names_over sets (take m ks) (take m is)) place) (add-one n) next)

has_place : (sets : SetLists) (ks is : List ℕ) → ArePositions sets ks is → (place : ℕ) × IsPlaceOf sets ks (names_over sets ks is) place
has_place sets ks is all =
    let long : length is ≡ length ks = AllZip-long (λ k i. i < length (members sets k)) ks is all in
    let found = has_place_upto sets ks is all (length ks) (omega arith) in
    let all_ks : take (length ks) ks ≡ ks = take_all (length ks) ks (omega arith) in
    let all_is : take (length ks) is ≡ is = take_all (length ks) is (omega (arith, long)) in
    (found.0, subst (λ js. IsPlaceOf sets js (names_over sets js is) found.0) all_ks (subst (λ hs. IsPlaceOf sets (take (length ks) ks) (names_over sets (take (length ks) ks) hs) found.0) all_is found.1))

value_of_empty : (param : ℕ) (table : ParamTable) (place : ℕ) → table.places.items ≡ [] → table_value param table place ≡ value_else param table.default
value_of_empty param table place none = rw none refl

pub returns-then-is_empty-clause-value : goal.returns-then-is_empty-clause-value
returns-then-is_empty-clause-value c =
    let sets = c.self.inside.sets in
    let tables = c.self.inside.tables.items in
    let second = c.self.inside.second in
    let p : ℕ = c.args.param in
    let is = c.args.index.now in
    let table = c.index-table.result.now in
    let used = subst (λ (b : Built). IsUsedParam b.facts p) (sym c.self.view_is) c.requires.used in
    let all = subst (λ (b : Built). ArePositions b.facts.sets (subscript_sets p) is) (sym c.self.view_is) c.requires.index in
    let found = has_place sets (subscript_sets p) is all in
    let its_table : table ≡ get_or tables (p - 1) table = c.index-table.ensures ∙ ap (λ n. get_or tables n table) c.from.ensures in
    let no_length : length c.as_slice.result.now ≡ 0 = eqb-true (length c.as_slice.result.now) 0 (sym c.is_empty.ensures ∙ c.if-is_empty.true) in
    let none : table.places.items ≡ [] = sym c.as_slice.ensures.value ∙ nil_from_length c.as_slice.result.now no_length in
    c.value_else.ensures
    ∙ sym (value_of_empty p table found.0 none)
    ∙ sym (value_kept sets tables second c.self.invariant.kept p used (names_at sets p is) found.0 found.1 table its_table)
    ∙ ap (λ (b : Built). value_at b.facts p (names_at b.facts.sets p is)) c.self.view_is

pub returns-then-is_empty-clause-given : goal.returns-then-is_empty-clause-given
returns-then-is_empty-clause-given c =
    let sets = c.self.inside.sets in
    let tables = c.self.inside.tables.items in
    let second = c.self.inside.second in
    let p : ℕ = c.args.param in
    let is = c.args.index.now in
    let used = subst (λ (b : Built). IsUsedParam b.facts p) (sym c.self.view_is) c.requires.used in
    let all = subst (λ (b : Built). ArePositions b.facts.sets (subscript_sets p) is) (sym c.self.view_is) c.requires.index in
    let found = has_place sets (subscript_sets p) is all in
    let given = value_complete sets tables second c.self.invariant.kept p used (names_at sets p is) found.0 found.1 in
    let same : value_at (facts_of sets tables second) p (names_at sets p is) ≡ c.value_else.result =
    ap (λ (b : Built). value_at b.facts p (names_at b.facts.sets p is)) c.self.view_is ∙ sym (returns-then-is_empty-clause-value c) in
    subst (λ o. IsSomeAnd o (IsValueIn (range_of p))) same given

pub returns-clause-value : goal.returns-clause-value
returns-clause-value c =
    let sets = c.self.inside.sets in
    let tables = c.self.inside.tables.items in
    let second = c.self.inside.second in
    let p : ℕ = c.args.param in
    let is = c.args.index.now in
    let table = c.index-table.result.now in
    let place : ℕ = c.place_of-place.result in
    let used = subst (λ (b : Built). IsUsedParam b.facts p) (sym c.self.view_is) c.requires.used in
    let at : IsPlaceOf sets (subscript_sets p) (names_at sets p is) place =
    subst (λ ks. IsPlaceOf sets ks (names_over sets ks is) place) c.subscript_sets.ensures.sets c.place_of-place.ensures in
    let its_table : table ≡ get_or tables (p - 1) table = c.index-table.ensures ∙ ap (λ n. get_or tables n table) c.from.ensures in
    c.value_at.ensures
    ∙ sym (value_kept sets tables second c.self.invariant.kept p used (names_at sets p is) place at table its_table)
    ∙ ap (λ (b : Built). value_at b.facts p (names_at b.facts.sets p is)) c.self.view_is

pub returns-clause-given : goal.returns-clause-given
returns-clause-given c =
    let sets = c.self.inside.sets in
    let tables = c.self.inside.tables.items in
    let second = c.self.inside.second in
    let p : ℕ = c.args.param in
    let is = c.args.index.now in
    let place : ℕ = c.place_of-place.result in
    let used = subst (λ (b : Built). IsUsedParam b.facts p) (sym c.self.view_is) c.requires.used in
    let at : IsPlaceOf sets (subscript_sets p) (names_at sets p is) place =
    subst (λ ks. IsPlaceOf sets ks (names_over sets ks is) place) c.subscript_sets.ensures.sets c.place_of-place.ensures in
    let given = value_complete sets tables second c.self.invariant.kept p used (names_at sets p is) place at in
    let same : value_at (facts_of sets tables second) p (names_at sets p is) ≡ c.value_at.result =
    ap (λ (b : Built). value_at b.facts p (names_at b.facts.sets p is)) c.self.view_is ∙ sym (returns-clause-value c) in
    subst (λ o. IsSomeAnd o (IsValueIn (range_of p))) same given
