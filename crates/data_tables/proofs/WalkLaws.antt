-- The indices of a parameter, position by position.
use Rattle.std.proofs.Common.{◌≡◌, ℕ, ◌+◌, ◌<◌, List, [], ◌∷◌, ◌++◌, drop, take, get_or, length, map, filter, refl, sym, ap, subst, ◌∙◌, append_assoc, arith}
use Rattle.std.proofs.lemmas.List.{drop_all, drop_more, length-append, map-append, take_all, take_more}
use Rattle.std.proofs.lemmas.List.Elements.{filter-append}
use Rattle.std.proofs.lemmas.Grind.{flat_map-append}
use Rattle.std.specs.List.{flat_map}
use Rattle.csv.specs.Writing.{default_writer, row_text}
use Rattle.model_sets.specs.Data.{Data}
use Rattle.model_sets.specs.Members.{SetLists, members}
use Rattle.model_sets.specs.Params.{subscript_sets}
use Rattle.param_tables.specs.Built.{amount_at}
use Rattle.param_tables.specs.Positions.{ArePositions, IsIndexOf, names_over}
use Rattle.param_tables.specs.Ratios.{count_in, positions_in}
use Rattle.plan_files.specs.Texts.{records_text}
use Rattle.plan_tables.specs.declared.shown.NumberForm.{NumberForm}
use Rattle.data_tables.specs.ParamTables.{cell_record, cell_records, positions_over, says}
use Rattle.data_tables.specs.Walks.{AreBegun, indices_from}

-- ---- texts

-- the text of the records of these indices
module _ (form : NumberForm) (d : Data) (param : ℕ) where
  abbrev pub cells_text : List (List ℕ) → List ℕ
  cells_text indices = records_text (cell_records form d param indices)

  pub cells_joined : (xs ys : List (List ℕ)) → cells_text (xs ++ ys) ≡ cells_text xs ++ cells_text ys
  cells_joined xs ys =
      ap (λ at. records_text (map (cell_record form d param) at)) (filter-append (λ at. says param (amount_at d param at)) xs ys)
      ∙ ap records_text (map-append (cell_record form d param) (filter (λ at. says param (amount_at d param at)) xs) (filter (λ at. says param (amount_at d param at)) ys))
      ∙ flat_map-append (row_text default_writer) (cell_records form d param xs) (cell_records form d param ys)

-- ---- lists

pub append_none : {A : Type 0} (xs : List A) → xs ++ [] ≡ xs
append_none [] = refl
append_none (x ∷ xs) = ap (λ l. x ∷ l) (append_none xs)

pub map-flat_map : {A B C : Type 0} (f : B → C) (g : A → List B) (xs : List A) → map f (flat_map g xs) ≡ flat_map (λ x. map f (g x)) xs
map-flat_map f g [] = refl
map-flat_map f g (x ∷ xs) = map-append f (g x) (flat_map g xs) ∙ ap (λ l. map f (g x) ++ l) (map-flat_map f g xs)

pub flat_map-same : {A B : Type 0} (f g : A → List B) → ((x : A) → f x ≡ g x) → (xs : List A) → flat_map f xs ≡ flat_map g xs
flat_map-same f g same [] = refl
flat_map-same f g same (x ∷ xs) = ap (λ l. l ++ flat_map f xs) (same x) ∙ ap (λ l. g x ++ l) (flat_map-same f g same xs)

pub map-map : {A B C : Type 0} (g : B → C) (f : A → B) (xs : List A) → map g (map f xs) ≡ map (λ x. g (f x)) xs
map-map g f [] = refl
map-map g f (x ∷ xs) = ap (λ l. g (f x) ∷ l) (map-map g f xs)

map-same : {A B : Type 0} (f g : A → B) → ((x : A) → f x ≡ g x) → (xs : List A) → map f xs ≡ map g xs
map-same f g same [] = refl
map-same f g same (x ∷ xs) = ap (λ y. y ∷ map f xs) (same x) ∙ ap (λ l. g x ∷ l) (map-same f g same xs)

-- a list without what was put at its end
pub take_begun : {A : Type 0} (xs ys : List A) → take (length xs) (xs ++ ys) ≡ xs
take_begun [] ys = refl
take_begun (x ∷ xs) ys = ap (λ l. x ∷ l) (take_begun xs ys)

-- ---- positions

-- one position more
pub positions_more : (sets : SetLists) (ks at : List ℕ) (k i : ℕ) → ArePositions sets ks at → i < length (members sets k) → ArePositions sets (ks ++ k ∷ []) (at ++ i ∷ [])
positions_more sets [] [] k i within here = (here, tt)
positions_more sets [] (j ∷ at) k i within here = absurd within
positions_more sets (k' ∷ ks) [] k i within here = absurd within
positions_more sets (k' ∷ ks) (j ∷ at) k i within here = (within.0, positions_more sets ks at k i within.1 here)

-- the names of what is left
pub names_next : (sets : SetLists) (over at : List ℕ) (i : ℕ) → i < length over → i < length at
    → names_over sets (drop i over) (drop i at) ≡ names_over sets (get_or over i 0 ∷ []) (get_or at i 0 ∷ []) ++ names_over sets (drop (i + 1) over) (drop (i + 1) at)
names_next sets over at i h g = ap (λ ks. names_over sets ks (drop i at)) (drop_more over i 0 h) ∙ ap (λ is. names_over sets (get_or over i 0 ∷ drop (i + 1) over) is) (drop_more at i 0 g)

module _ (sets : SetLists) (param : ℕ) (begun : List ℕ) where
  -- the indices that begin so and go on with this position, where these sets are left after it
  abbrev pub next_indices : List ℕ → ℕ → List (List ℕ)
  next_indices left i = map (λ rest. (begun ++ i ∷ []) ++ rest) (positions_over sets left)

  -- all that begin so, where nothing is left
  pub indices_whole : AreBegun sets param begun → length begun ≡ length (subscript_sets param) → indices_from sets param begun ≡ begun ∷ []
  indices_whole are long =
      ap (λ ks. map (λ rest. begun ++ rest) (positions_over sets ks)) (drop_all (length begun) (subscript_sets param) (omega (arith, long)))
      ∙ ap (λ at. at ∷ []) (append_none begun)

  pub index_whole : AreBegun sets param begun → length begun ≡ length (subscript_sets param) → IsIndexOf sets param begun
  index_whole are long = subst (λ ks. ArePositions sets ks begun) (take_all (length begun) (subscript_sets param) (omega (arith, long))) are.within

  -- and where a set is
  module _ (short : length begun < length (subscript_sets param)) where
    abbrev pub left_after : List ℕ
    left_after = drop (length begun + 1) (subscript_sets param)

    pub indices_more : indices_from sets param begun ≡ flat_map (next_indices left_after) (positions_in sets (get_or (subscript_sets param) (length begun) 0))
    indices_more =
        let k : ℕ = get_or (subscript_sets param) (length begun) 0 in
        ap (λ ks. map (λ rest. begun ++ rest) (positions_over sets ks)) (drop_more (subscript_sets param) (length begun) 0 short)
        ∙ map-flat_map (λ rest. begun ++ rest) (λ i. map (λ rest. i ∷ rest) (positions_over sets left_after)) (positions_in sets k)
        ∙ flat_map-same (λ i. map (λ rest. begun ++ rest) (map (λ rest. i ∷ rest) (positions_over sets left_after))) (next_indices left_after)
        (λ i. map-map (λ rest. begun ++ rest) (λ rest. i ∷ rest) (positions_over sets left_after)
        ∙ map-same (λ rest. begun ++ i ∷ rest) (λ rest. (begun ++ i ∷ []) ++ rest) (λ rest. sym (append_assoc begun (i ∷ []) rest)) (positions_over sets left_after))
        (positions_in sets k)

    pub begun_more : (i : ℕ) → AreBegun sets param begun → i < count_in sets (get_or (subscript_sets param) (length begun) 0) → AreBegun sets param (begun ++ i ∷ [])
    begun_more i are here =
        let long : length (begun ++ i ∷ []) ≡ length begun + 1 = length-append begun (i ∷ []) in
        let ks : List ℕ = subscript_sets param in
        record {
          most = omega (arith, short, long);
          within =
              subst (λ n. ArePositions sets (take n ks) (begun ++ i ∷ [])) (sym long)
              (subst (λ taken. ArePositions sets taken (begun ++ i ∷ [])) (sym (take_more ks (length begun) 0 short)) (positions_more sets (take (length begun) ks) begun (get_or ks (length begun) 0) i are.within here));
        }

    pub indices_of_more : (i : ℕ) → indices_from sets param (begun ++ i ∷ []) ≡ next_indices left_after i
    indices_of_more i =
        ap (λ n. map (λ rest. (begun ++ i ∷ []) ++ rest) (positions_over sets (drop n (subscript_sets param)))) (length-append begun (i ∷ []))

map-none : (xs : List (List ℕ)) → map (λ rest. [] ++ rest) xs ≡ xs
map-none [] = refl
map-none (x ∷ xs) = ap (λ l. x ∷ l) (map-none xs)

-- all indices begin with none
pub from_none : (sets : SetLists) (param : ℕ) → indices_from sets param [] ≡ positions_over sets (subscript_sets param)
from_none sets param = map-none (positions_over sets (subscript_sets param))
