-- The variables of rows of which some are held: those that are gathered, with those of the rows that are held, are all.
use Rattle.row_book.proofs.Common.{◌≡◌, ℕ, ◌+◌, ◌<◌, ◌≤◌, append_assoc, drop, get_or, length, List, [], ◌∷◌, ◌++◌, refl, ap, sym, ◌∙◌, subst, inl, inr, flat_map-append, append-nil, drop_all, drop_more, Contains-append_cases, Contains-append_left, Contains-append_right, Row, Var, entry_variables, held_variables, AreSameVariables, AreSortedVariables, found_variables, HeldRows, Tally}
use Rattle.row_book.proofs.TallyLaws.{same-from_equal, variables-more, variables-over}

-- those of rows that are let go are gathered, beside those of rows that are held
pub gathered-beside : (old now added held : List Var) → AreSameVariables now (old ++ added) → AreSameVariables (now ++ held) ((old ++ held) ++ added)
gathered-beside old now added held more v = (
  λ has.
      elim (Contains-append_cases now held v has) [
        | inl left ↦ elim (Contains-append_cases old added v ((more v).0 left)) [
          | inl first ↦ Contains-append_left (old ++ held) added v (Contains-append_left old held v first)
          | inr second ↦ Contains-append_right (old ++ held) added v second
        ]
        | inr right ↦ Contains-append_left (old ++ held) added v (Contains-append_right old held v right)
      ],
  λ has.
      elim (Contains-append_cases (old ++ held) added v has) [
        | inl left ↦ elim (Contains-append_cases old held v left) [
          | inl first ↦ Contains-append_left now held v ((more v).1 (Contains-append_left old added v first))
          | inr second ↦ Contains-append_right now held v second
        ]
        | inr right ↦ Contains-append_left now held v ((more v).1 (Contains-append_right old added v right))
      ],
)

-- rows that are held bring theirs with them
pub held-beside : (gathered : List Var) (held : List HeldRows) (h : HeldRows) (rows : List Row) → h.rows.items ≡ rows
    → gathered ++ held_variables (held ++ h ∷ []) ≡ (gathered ++ held_variables held) ++ entry_variables rows
held-beside gathered held h rows is =
    ap (λ (vs : List Var). gathered ++ vs) (flat_map-append (λ (x : HeldRows). entry_variables x.rows.items) held (h ∷ []) ∙ ap (λ (vs : List Var). held_variables held ++ vs) (append-nil (entry_variables h.rows.items) ∙ ap entry_variables is))
    ∙ sym (append_assoc gathered (held_variables held) (entry_variables rows))

pub held-same : (gathered : List Var) (held more : List HeldRows) (h : HeldRows) (rows : List Row) → more ≡ held ++ h ∷ [] → h.rows.items ≡ rows
    → AreSameVariables (gathered ++ held_variables more) ((gathered ++ held_variables held) ++ entry_variables rows)
held-same gathered held more h rows is own =
    same-from_equal (gathered ++ held_variables more) ((gathered ++ held_variables held) ++ entry_variables rows)
    (ap (λ (hs : List HeldRows). gathered ++ held_variables hs) is ∙ held-beside gathered held h rows own)

-- those of one list of held rows more are gathered
pub completed-more : (held : List HeldRows) (k : ℕ) (h : HeldRows) (so_far now all : List Var) → k < length held → h ≡ get_or held k h
    → AreSameVariables now (so_far ++ entry_variables h.rows.items) → AreSameVariables (so_far ++ held_variables (drop k held)) all
    → AreSameVariables (now ++ held_variables (drop (k + 1) held)) all
completed-more held k h so_far now all below is more before =
    let own : List Var = entry_variables h.rows.items in
    let rest : List Var = held_variables (drop (k + 1) held) in
    let parts : held_variables (drop k held) ≡ own ++ rest = ap held_variables (drop_more held k h below) ∙ ap (λ (x : HeldRows). entry_variables x.rows.items ++ rest) (sym is) in
    let whole : (so_far ++ own) ++ rest ≡ so_far ++ held_variables (drop k held) = append_assoc so_far own rest ∙ ap (λ (vs : List Var). so_far ++ vs) (sym parts) in
    variables-over (now ++ rest) (so_far ++ held_variables (drop k held)) all
    (subst (λ (vs : List Var). AreSameVariables (now ++ rest) vs) whole (variables-more now (now ++ rest) rest (so_far ++ own) more (same-from_equal (now ++ rest) (now ++ rest) refl))) before

-- once those of all are gathered, they are sorted
pub completed-sorted : (held : List HeldRows) (k : ℕ) (gathered sorted all : List Var) → length held ≤ k → AreSameVariables (gathered ++ held_variables (drop k held)) all
    → AreSortedVariables gathered sorted → AreSortedVariables all sorted
completed-sorted held k gathered sorted all past before are =
    let none : gathered ++ held_variables (drop k held) ≡ gathered = ap (λ (hs : List HeldRows). gathered ++ held_variables hs) (drop_all k held past) ∙ append-nil gathered in
    record { ascending = are.ascending; same = variables-over sorted gathered all are.same (subst (λ (vs : List Var). AreSameVariables vs all) none before) }

pub found-sorted : (t : Tally) (held : List HeldRows) (sorted : List Var) → held ≡ t.held.items → AreSortedVariables (t.vars.items ++ held_variables held) sorted → AreSortedVariables (found_variables t) sorted
found-sorted t held sorted is are = subst (λ (hs : List HeldRows). AreSortedVariables (t.vars.items ++ held_variables hs) sorted) is are
