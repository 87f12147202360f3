-- Rows of a trial, among those of another.
use Rattle.conflict_sets.proofs.Common.{◌≡◌, Bool, true, List, [], ◌∷◌, ◌++◌, filter, refl, is_lt, both_true, Row, RowName, ascends, row_name_cmp, ascends-skip, ascends-tail, both_passed, row_name_cmp_total, Has, Has-filter, Has-map, filter_parts, map_parts, is_unequal, by_test, inequalities, is_taken}

-- ---- ascending names

-- a name may be left out of ascending ones
pub without-one : (vs : List RowName) (c : RowName) (ws : List RowName) → ascends row_name_cmp (vs ++ c ∷ ws) ≡ true → ascends row_name_cmp (vs ++ ws) ≡ true
without-one [] c ws up = ascends-tail row_name_cmp c ws up
without-one (v ∷ []) c ws up = ascends-skip row_name_cmp row_name_cmp_total v c ws up
without-one (v ∷ w ∷ vs) c ws up =
    let parts = both_passed (is_lt (row_name_cmp v w)) (ascends row_name_cmp (w ∷ vs ++ c ∷ ws)) up in
    both_true parts.0 (without-one (w ∷ vs) c ws parts.1)

-- ---- rows of a trial

-- the name of an inequality of rows
pub inequality-named : (rows : List Row) (row : Row) → Has rows row → is_unequal row.sense ≡ true → Has (inequalities rows) row.name
inequality-named rows row h k = Has-map (λ (r : Row). r.name) (filter (λ (r : Row). is_unequal r.sense) rows) row (Has-filter (λ (r : Row). is_unequal r.sense) rows row h k)

pub inequality-row : (rows : List Row) (u : RowName) → Has (inequalities rows) u → (row : Row) × Has rows row × (is_unequal row.sense ≡ true) × (row.name ≡ u)
inequality-row rows u h =
    let found = map_parts (λ (r : Row). r.name) (filter (λ (r : Row). is_unequal r.sense) rows) u h in
    let parts = filter_parts (λ (r : Row). is_unequal r.sense) rows found.0 found.1 in
    (found.0, parts.0, parts.1, found.2)

-- one list takes what another takes
abbrev pub Takes : (rows : List Row) (fewer more : RowName → Bool) → Type 0
Takes rows fewer more = (name : RowName) → Has (inequalities rows) name → fewer name ≡ true → more name ≡ true

pub taken-too : (rows : List Row) (fewer more : RowName → Bool) (row : Row) → Has rows row → Takes rows fewer more → is_taken fewer row ≡ true → is_taken more row ≡ true
taken-too rows fewer more row h takes k = by_test (is_unequal row.sense) (λ is. rw is (takes row.name (inequality-named rows row h is) (rw is at k))) (λ is. rw is refl)
