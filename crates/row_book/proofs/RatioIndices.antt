-- The indices of a ratio that the data list are those of the walk through its subscripts.
use Rattle.std.proofs.Common.{◌≡◌, ℕ, Bool, true, false, if◌then◌else◌, List, [], ◌∷◌, map, filter, refl, ap, sym, ◌∙◌}
use Rattle.row_book.proofs.Common.{flat_map, append-nil, Data, at_r, index, all_years, emissions, fuels, modes, technologies, is_nonzero_in, nonzero_indices, ratio_index, ratio_indices, ActivityRatio, Input, Output, Emission, RatioIndex, Index, cell_at, cells_of_ratio, has_ratio, ratio_subscripts, inner_subscripts, walk}
use Rattle.row_book.proofs.Lists.{flat_map-same, map-flat_map}

-- ---- lists

map-map : {A B : Type 0} (g : A → B) (f : ℕ → A) (ns : List ℕ) → map g (map f ns) ≡ flat_map (λ n. g (f n) ∷ []) ns
map-map g f [] = refl
map-map g f (n ∷ ns) = ap (λ rest. g (f n) ∷ rest) (map-map g f ns)

-- what is kept of a list by a test that looks at what is made of each element
map-filter : {A B : Type 0} (g : A → B) (p : A → Bool) (q : B → Bool) → ((x : A) → p x ≡ q (g x)) → (xs : List A) → map g (filter p xs) ≡ filter q (map g xs)
map-filter g p q same [] = refl
map-filter g p q same (x ∷ xs) = by_test (p x) (q (g x)) (same x) (map-filter g p q same xs)
  where
    by_test : (b c : Bool) → b ≡ c → map g (filter p xs) ≡ filter q (map g xs)
        → map g (if b then x ∷ filter p xs else filter p xs) ≡ (if c then g x ∷ filter q (map g xs) else filter q (map g xs))
    by_test true true e rest = ap (λ ys. g x ∷ ys) rest
    by_test false false e rest = rest
    by_test true false e rest = absurd (cc e)
    by_test false true e rest = absurd (cc e)

-- ---- indices

-- the indices with these subscripts, year by year
abbrev fuel_years : Data → ℕ → ℕ → ℕ → ℕ → List Index
fuel_years d r t f m = flat_map (λ y. index r 0 0 t f 0 m y ∷ []) (all_years d)

abbrev emission_years : Data → ℕ → ℕ → ℕ → ℕ → List Index
emission_years d r t e m = flat_map (λ y. index r 0 0 t 0 e m y ∷ []) (all_years d)

-- a ratio of fuels
fuel-walk : (d : Data) (r : ℕ) → map (cell_at Input r) (ratio_indices d.sets Input) ≡ walk d (ratio_subscripts Input) inner_subscripts (at_r r)
fuel-walk d r =
    map-flat_map (cell_at Input r) (λ t. flat_map (λ f. flat_map (λ m. map (λ y. ratio_index t f m y) (all_years d)) (modes d)) (fuels d)) (technologies d)
    ∙ flat_map-same _ _
    (λ t.
    map-flat_map (cell_at Input r) (λ f. flat_map (λ m. map (λ y. ratio_index t f m y) (all_years d)) (modes d)) (fuels d)
    ∙ flat_map-same _ _
    (λ f.
    map-flat_map (cell_at Input r) (λ m. map (λ y. ratio_index t f m y) (all_years d)) (modes d)
    ∙ flat_map-same _ _ (λ m. map-map (cell_at Input r) (λ y. ratio_index t f m y) (all_years d)) (modes d)
    ∙ sym (append-nil (flat_map (fuel_years d r t f) (modes d))))
    (fuels d))
    (technologies d)

-- a ratio of emissions
emission-walk : (d : Data) (r : ℕ) → map (cell_at Emission r) (ratio_indices d.sets Emission) ≡ walk d (ratio_subscripts Emission) inner_subscripts (at_r r)
emission-walk d r =
    map-flat_map (cell_at Emission r) (λ t. flat_map (λ e. flat_map (λ m. map (λ y. ratio_index t e m y) (all_years d)) (modes d)) (emissions d)) (technologies d)
    ∙ flat_map-same _ _
    (λ t.
    map-flat_map (cell_at Emission r) (λ e. flat_map (λ m. map (λ y. ratio_index t e m y) (all_years d)) (modes d)) (emissions d)
    ∙ flat_map-same _ _
    (λ e.
    map-flat_map (cell_at Emission r) (λ m. map (λ y. ratio_index t e m y) (all_years d)) (modes d)
    ∙ flat_map-same _ _ (λ m. map-map (cell_at Emission r) (λ y. ratio_index t e m y) (all_years d)) (modes d))
    (emissions d)
    ∙ sym (append-nil (flat_map (λ e. flat_map (emission_years d r t e) (modes d)) (emissions d))))
    (technologies d)

asked-walked : (d : Data) (ratio : ActivityRatio) (r : ℕ) → map (cell_at ratio r) (ratio_indices d.sets ratio) ≡ walk d (ratio_subscripts ratio) inner_subscripts (at_r r)
asked-walked d Input r = fuel-walk d r
asked-walked d Output r = fuel-walk d r
asked-walked d Emission r = emission-walk d r

-- the tests of the data and of the equations are one
same-test : (d : Data) (ratio : ActivityRatio) (r : ℕ) (i : RatioIndex) → is_nonzero_in d ratio r i ≡ has_ratio d ratio (cell_at ratio r i)
same-test d Input r i = refl
same-test d Output r i = refl
same-test d Emission r i = refl

-- the indices of the region that the data list, as those of the walk
pub listed-cells : (d : Data) (ratio : ActivityRatio) (r : ℕ) → map (cell_at ratio r) (nonzero_indices d ratio r) ≡ cells_of_ratio d ratio r
listed-cells d ratio r =
    map-filter (cell_at ratio r) (is_nonzero_in d ratio r) (has_ratio d ratio) (same-test d ratio r) (ratio_indices d.sets ratio)
    ∙ ap (filter (has_ratio d ratio)) (asked-walked d ratio r)
