-- No two variables, and no two rows, of the sets have the same fields.
use Rattle.plan_files.proofs.Common.{◌≡◌, ℕ, ◌≤◌, Bool, true, false, List, [], map, get_or, refl, sym, ap, ap₂, ◌∙◌, arith, IsDistinct, bytes_eq, AreSets, SetLists, members, Index, RowName, Var, equation_has, kind_has, word_of_kind, set_of, Fields, IsListedRow, IsListedVariable, IsIndexOf, IsSubscript, places, row_fields, variable_fields}
use Rattle.row_core.proofs.Words.{word_of_equation_apart, word_of_kind_apart}
use Rattle.plan_files.proofs.KeyLaws.{or_number}
use Rattle.plan_files.proofs.NamedLaws.{row_index, variable_index}
use Rattle.plan_files.proofs.SubscriptLaws.{subscript_alone}

subscript_unique : (names : List (List ℕ)) (has : Bool) (name : List ℕ) (p q : ℕ) → IsDistinct bytes_eq names → IsSubscript names has name p → IsSubscript names has name q → p ≡ q
subscript_unique names true name p q distinct s t = ap (or_number p) (sym (subscript_alone names true name p refl distinct s) ∙ subscript_alone names true name q refl distinct t)
subscript_unique names false name p q distinct s t = s.unused refl ∙ sym (t.unused refl)

index_with : ℕ → ℕ → ℕ → ℕ → ℕ → ℕ → ℕ → ℕ → Index
index_with r rr l t f e m y = record { region = r; other = rr; slice = l; tech = t; fuel = f; emission = e; mode = m; year = y }

same_index : (i j : Index) → i.region ≡ j.region → i.other ≡ j.other → i.slice ≡ j.slice → i.tech ≡ j.tech → i.fuel ≡ j.fuel → i.emission ≡ j.emission → i.mode ≡ j.mode → i.year ≡ j.year → i ≡ j
unfolding index_with
same_index i j r rr l t f e m y =
    ap (λ z. index_with z i.other i.slice i.tech i.fuel i.emission i.mode i.year) r
    ∙ ap (λ z. index_with j.region z i.slice i.tech i.fuel i.emission i.mode i.year) rr
    ∙ ap (λ z. index_with j.region j.other z i.tech i.fuel i.emission i.mode i.year) l
    ∙ ap (λ z. index_with j.region j.other j.slice z i.fuel i.emission i.mode i.year) t
    ∙ ap (λ z. index_with j.region j.other j.slice j.tech z i.emission i.mode i.year) f
    ∙ ap (λ z. index_with j.region j.other j.slice j.tech j.fuel z i.mode i.year) e
    ∙ ap (λ z. index_with j.region j.other j.slice j.tech j.fuel j.emission z i.year) m
    ∙ ap (λ z. index_with j.region j.other j.slice j.tech j.fuel j.emission j.mode z) y

index_unique : (sets : SetLists) (has : List Bool) (r : Fields) (i j : Index) → AreSets sets → IsIndexOf sets has r i → IsIndexOf sets has r j → i ≡ j
index_unique sets has r i j are a b =
    same_index i j
    (subscript_unique _ _ _ i.region j.region (distinct 0 (omega arith) (omega arith)) a.0 b.0)
    (subscript_unique _ _ _ i.other j.other (distinct 1 (omega arith) (omega arith)) a.1.0 b.1.0)
    (subscript_unique _ _ _ i.slice j.slice (distinct 2 (omega arith) (omega arith)) a.1.1.0 b.1.1.0)
    (subscript_unique _ _ _ i.tech j.tech (distinct 3 (omega arith) (omega arith)) a.1.1.1.0 b.1.1.1.0)
    (subscript_unique _ _ _ i.fuel j.fuel (distinct 4 (omega arith) (omega arith)) a.1.1.1.1.0 b.1.1.1.1.0)
    (subscript_unique _ _ _ i.emission j.emission (distinct 5 (omega arith) (omega arith)) a.1.1.1.1.1.0 b.1.1.1.1.1.0)
    (subscript_unique _ _ _ i.mode j.mode (distinct 6 (omega arith) (omega arith)) a.1.1.1.1.1.1.0 b.1.1.1.1.1.1.0)
    (subscript_unique _ _ _ i.year j.year (distinct 7 (omega arith) (omega arith)) a.1.1.1.1.1.1.1.0 b.1.1.1.1.1.1.1.0)
  where
    distinct : (place : ℕ) → 1 ≤ set_of place → set_of place ≤ 11 → IsDistinct bytes_eq (members sets (set_of place))
    distinct place low high = (are.rules (set_of place) (low, high)).distinct

pub same_variable : (sets : SetLists) → AreSets sets → (v w : Var) → IsListedVariable sets v → IsListedVariable sets w → variable_fields sets v ≡ variable_fields sets w → v ≡ w
same_variable sets are v w listed_v listed_w same =
    let kind : v.kind ≡ w.kind = word_of_kind_apart v.kind w.kind listed_v.0 listed_w.0 (ap (λ fs. get_or fs 0 []) same) in
    let has : List Bool = map (kind_has w.kind) places in
    let index : v.index ≡ w.index =
    index_unique sets has (variable_fields sets w) v.index w.index are (variable_index sets v (word_of_kind w.kind) (variable_fields sets w) w.kind has listed_v same (sym kind) refl) (variable_index sets w (word_of_kind w.kind) (variable_fields sets w) w.kind has listed_w refl refl refl) in
    ap₂ (λ k (i : Index). record { kind = k; index = i }) kind index

pub same_row : (sets : SetLists) → AreSets sets → (v w : RowName) → IsListedRow sets v → IsListedRow sets w → row_fields sets v ≡ row_fields sets w → v ≡ w
same_row sets are v w listed_v listed_w same =
    let eq : v.eq ≡ w.eq = word_of_equation_apart v.eq w.eq listed_v.0 listed_w.0 (ap (λ fs. get_or fs 0 []) same) in
    let has : List Bool = map (equation_has w.eq) places in
    let index : v.index ≡ w.index =
    index_unique sets has (row_fields sets w) v.index w.index are (row_index sets v (row_fields sets w) w.eq has listed_v same (sym eq) refl) (row_index sets w (row_fields sets w) w.eq has listed_w refl refl refl) in
    ap₂ (λ k (i : Index). record { eq = k; index = i }) eq index
