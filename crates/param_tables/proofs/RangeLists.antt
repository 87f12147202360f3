-- Lists made by position: rows of equal length as one list, and a filter of what a list is made of.
use Rattle.param_tables.proofs.Common.{◌≡◌, ℕ, ◌*◌, ◌/◌, ◌%◌, ◌<◌, Bool, true, false, cond, List, [], ◌∷◌, length, map, get_or, refl, ap, ◌∙◌, arith, filter, flat_map, range_with_len, fill_by_all, get_or-map-range_with_len, get_or-range_with_len, length-map-range_with_len, length-range_with_len, SetLists, technology, mode, year, commodity, positions_in, ratio_index, ratio_indices, commodity_size, index_at_offset, ratio_sizes, region_size, technology_size, ActivityRatio}
use Rattle.param_tables.proofs.IndexLaws.{IsPart, flat_map-congr, get_or-blocks, length-blocks, parts}

-- m rows of n items each
module _ {X : Type 0} (g : ℕ → ℕ → X) (m n : ℕ) where
  abbrev row : ℕ → List X
  row i = map (g i) (range_with_len 0 n)

  row_long : (i : ℕ) → length (row i) ≡ n
  row_long i = length-map-range_with_len (g i) 0 n

  rows_long : length (flat_map row (range_with_len 0 m)) ≡ m * n
  rows_long = length-blocks row n row_long (range_with_len 0 m) ∙ ap (λ k. k * n) (length-range_with_len 0 m)

  rows_at : (k : ℕ) → k < m * n → get_or (flat_map row (range_with_len 0 m)) k (g 0 0) ≡ g (k / n) (k % n)
  rows_at k below =
      let part : IsPart m n k = parts m n k below in
      let block : k / n < m = part.block in
      let which : get_or (range_with_len 0 m) (k / n) 0 ≡ k / n = get_or-range_with_len 0 m (k / n) 0 block ∙ omega arith in
      let there : k / n < length (range_with_len 0 m) = omega (arith, length-range_with_len 0 m) in
      ap (λ j. get_or (flat_map row (range_with_len 0 m)) j (g 0 0)) part.whole
      ∙ get_or-blocks row n row_long (range_with_len 0 m) (k / n) (k % n) 0 (g 0 0) there part.place
      ∙ ap (λ i. get_or (row i) (k % n) (g 0 0)) which
      ∙ get_or-map-range_with_len (g (k / n)) 0 n (k % n) (k % n) (g 0 0) part.place (omega arith)

  rows : flat_map (λ i. map (g i) (range_with_len 0 n)) (range_with_len 0 m) ≡ map (λ k. g (k / n) (k % n)) (range_with_len 0 (m * n))
  rows = fill_by_all (λ k. g (k / n) (k % n)) (flat_map row (range_with_len 0 m)) (m * n) (g 0 0) rows_long rows_at

-- the indices of a region, by their places
pub indices_by_place : (sets : SetLists) (ratio : ActivityRatio) → ratio_indices sets ratio ≡ map (index_at_offset (ratio_sizes sets ratio)) (range_with_len 0 (region_size (ratio_sizes sets ratio)))
indices_by_place sets ratio =
    let s = ratio_sizes sets ratio in
    flat_map-congr
    (λ t. flat_map (λ c. flat_map (λ m. map (λ y. ratio_index t c m y) (positions_in sets year)) (positions_in sets mode)) (positions_in sets (commodity ratio)))
    (λ t. map (λ k. ratio_index t (k / commodity_size s) (k % commodity_size s / s.years) (k % commodity_size s % s.years)) (range_with_len 0 (technology_size s)))
    (λ t.
    flat_map-congr
    (λ c. flat_map (λ m. map (λ y. ratio_index t c m y) (positions_in sets year)) (positions_in sets mode))
    (λ c. map (λ k. ratio_index t c (k / s.years) (k % s.years)) (range_with_len 0 (commodity_size s)))
    (λ c. rows (λ m y. ratio_index t c m y) s.modes s.years)
    (positions_in sets (commodity ratio))
    ∙ rows (λ c k. ratio_index t c (k / s.years) (k % s.years)) s.commodities (commodity_size s))
    (positions_in sets technology)
    ∙ rows (λ t k. ratio_index t (k / commodity_size s) (k % commodity_size s / s.years) (k % commodity_size s % s.years)) s.technologies (technology_size s)

pub filter-map : {X Y : Type 0} (p : Y → Bool) (f : X → Y) (xs : List X) → filter p (map f xs) ≡ map f (filter (λ x. p (f x)) xs)
filter-map p f [] = refl
filter-map p f (x ∷ xs) = ap (λ ys. cond (p (f x)) (f x ∷ ys) ys) (filter-map p f xs) ∙ of_cond (p (f x))
  where
    of_cond : (b : Bool) → cond b (f x ∷ map f (filter (λ z. p (f z)) xs)) (map f (filter (λ z. p (f z)) xs)) ≡ map f (cond b (x ∷ filter (λ z. p (f z)) xs) (filter (λ z. p (f z)) xs))
    of_cond true = refl
    of_cond false = refl
