-- The places of a ratio's indices: from a place to the index and back, and in groups.
use Rattle.param_tables.proofs.Common.{◌≡◌, ℕ, ◌+◌, ◌*◌, ◌/◌, ◌%◌, ◌<◌, ◌≤◌, [], ◌∷◌, length, refl, sym, ap, ◌∙◌, subst, inl, inr, arith, slice_index_or, cases_eq, cases_lt, indices_of, indices_over, SetLists, members, region, technology, fuel, emission, mode, year, subscript_sets, IsPlaceOf, IsIndexOf, names_at, names_over, count_in, ratio_index, ratio_param, IsWithin, commodity_size, group_of, group_size, grouped_place, index_at_offset, offset_of, ratio_place, ratio_sizes, region_size, regrouped, technology_size, RatioSizes, ActivityRatio, Input, Output, Emission, RatioIndex}
use Rattle.param_tables.proofs.IndexLaws.{IsPart, length-push, parts}
use Rattle.param_tables.proofs.PlaceLaws.{place_more, place_none}

-- ---- digits

before_block : (n a b : ℕ) → a < b → a * n + n ≤ b * n
before_block n a b less =
    let more : (a + 1) * n ≤ b * n = grind arith in
    omega arith

pub below_blocks : (m n a i : ℕ) → a < m → i < n → a * n + i < m * n
below_blocks m n a i block place = let more = before_block n a m block in omega arith

-- a number is written in one way as a block and a place in it
pub record AreSameDigits (a b i j : ℕ) : Type 0 where
  pub block : a ≡ b
  pub place : i ≡ j

pub digits : (n a b i j : ℕ) → i < n → j < n → a * n + i ≡ b * n + j → AreSameDigits a b i j
digits n a b i j bi bj same = elim (cases_lt a b) [
  | inl less ↦ let more = before_block n a b less in absurd (omega arith)
  | inr not_less ↦ elim (cases_eq a b) [
    | inl e ↦ record { block = e; place = let blocks : a * n ≡ b * n = ap (λ c. c * n) e in omega arith }
    | inr other ↦ let more = before_block n b a (omega arith) in absurd (omega arith)
  ]
]

pub block_back : (m n a i : ℕ) → a < m → i < n → AreSameDigits ((a * n + i) / n) a ((a * n + i) % n) i
block_back m n a i block place =
    let part : IsPart m n (a * n + i) = parts m n (a * n + i) (below_blocks m n a i block place) in
    digits n ((a * n + i) / n) a ((a * n + i) % n) i part.place place (sym part.whole)

-- ---- the index at a place of a region

module _ (s : RatioSizes) where
  pub within_offset : (offset : ℕ) → offset < region_size s → IsWithin s (index_at_offset s offset).technology (index_at_offset s offset).commodity (index_at_offset s offset).mode (index_at_offset s offset).year
  within_offset offset below =
      let p : IsPart s.technologies (technology_size s) offset = parts s.technologies (technology_size s) offset below in
      let q : IsPart s.commodities (commodity_size s) (offset % technology_size s) = parts s.commodities (commodity_size s) (offset % technology_size s) p.place in
      let w : IsPart s.modes s.years (offset % technology_size s % commodity_size s) = parts s.modes s.years (offset % technology_size s % commodity_size s) q.place in
      record { technology = p.block; commodity = q.block; mode = w.block; year = w.place }

  pub within_from : (offset a b d e y z : ℕ) → a ≡ technology_size s → b ≡ technology_size s → d ≡ commodity_size s → e ≡ commodity_size s → y ≡ s.years → z ≡ s.years → offset < region_size s → IsWithin s (offset / a) (offset % b / d) (offset % b % e / y) (offset % b % e % z)
  within_from offset a b d e y z ea eb ed ee ey ez below = rw (ea, eb, ed, ee, ey, ez) (within_offset offset below)

  pub offset_back : (offset : ℕ) → offset < region_size s → offset_of s (index_at_offset s offset).technology (index_at_offset s offset).commodity (index_at_offset s offset).mode (index_at_offset s offset).year ≡ offset
  offset_back offset below =
      let p : IsPart s.technologies (technology_size s) offset = parts s.technologies (technology_size s) offset below in
      let q : IsPart s.commodities (commodity_size s) (offset % technology_size s) = parts s.commodities (commodity_size s) (offset % technology_size s) p.place in
      let w : IsPart s.modes s.years (offset % technology_size s % commodity_size s) = parts s.modes s.years (offset % technology_size s % commodity_size s) q.place in
      let i = index_at_offset s offset in
      ap (λ r. i.technology * technology_size s + (i.commodity * commodity_size s + r)) (sym w.whole)
      ∙ ap (λ r. i.technology * technology_size s + r) (sym q.whole)
      ∙ sym p.whole

  module _ (t c m y : ℕ) (within : IsWithin s t c m y) where
    in_commodity : m * s.years + y < commodity_size s
    in_commodity = below_blocks s.modes s.years m y within.mode within.year

    in_technology : c * commodity_size s + (m * s.years + y) < technology_size s
    in_technology = below_blocks s.commodities (commodity_size s) c (m * s.years + y) within.commodity in_commodity

    pub offset_below : offset_of s t c m y < region_size s
    offset_below = below_blocks s.technologies (technology_size s) t (c * commodity_size s + (m * s.years + y)) within.technology in_technology

    pub index_back : index_at_offset s (offset_of s t c m y) ≡ ratio_index t c m y
    index_back =
        let rest_c = m * s.years + y in
        let rest_t = c * commodity_size s + rest_c in
        let p : AreSameDigits (offset_of s t c m y / technology_size s) t (offset_of s t c m y % technology_size s) rest_t = block_back s.technologies (technology_size s) t rest_t within.technology in_technology in
        let q : AreSameDigits (rest_t / commodity_size s) c (rest_t % commodity_size s) rest_c = block_back s.commodities (commodity_size s) c rest_c within.commodity in_commodity in
        let w : AreSameDigits (rest_c / s.years) m (rest_c % s.years) y = block_back s.modes s.years m y within.mode within.year in
        let by : (d k : ℕ) → RatioIndex = λ (d k : ℕ). record { technology = d; commodity = k / commodity_size s; mode = k % commodity_size s / s.years; year = k % commodity_size s % s.years } in
        let by_c : (d k : ℕ) → RatioIndex = λ (d k : ℕ). record { technology = t; commodity = d; mode = k / s.years; year = k % s.years } in
        let by_m : (d k : ℕ) → RatioIndex = λ (d k : ℕ). record { technology = t; commodity = c; mode = d; year = k } in
        ap (λ d. by d (offset_of s t c m y % technology_size s)) p.block
        ∙ ap (by t) p.place
        ∙ ap (λ d. by_c d (rest_t % commodity_size s)) q.block
        ∙ ap (by_c c) q.place
        ∙ ap (λ d. by_m d (rest_c % s.years)) w.block
        ∙ ap (by_m m) w.place

-- ---- groups

-- indices with one grouped place have one place
pub grouped_apart : (s : RatioSizes) (r t c m y r' t' c' m' y' : ℕ) → IsWithin s t c m y → IsWithin s t' c' m' y' → grouped_place s r t c m y ≡ grouped_place s r' t' c' m' y' → ratio_place s r t c m y ≡ ratio_place s r' t' c' m' y'
grouped_apart s r t c m y r' t' c' m' y' within within' same =
    let all = digits (group_size s) (group_of s r c y) (group_of s r' c' y') (t * s.modes + m) (t' * s.modes + m') (below_blocks s.technologies s.modes t m within.technology within.mode) (below_blocks s.technologies s.modes t' m' within'.technology within'.mode) same in
    let last = digits s.modes t t' m m' within.mode within'.mode all.place in
    let first = digits s.years (r * s.commodities + c) (r' * s.commodities + c') y y' within.year within'.year all.block in
    let front = digits s.commodities r r' c c' within.commodity within'.commodity first.block in
    let er = front.block in
    let ec = front.place in
    let ey = first.place in
    let et = last.block in
    let em = last.place in
    ap (λ n. ratio_place s n t c m y) er ∙ ap (λ n. ratio_place s r' n c m y) et ∙ ap (λ n. ratio_place s r' t' n m y) ec ∙ ap (λ n. ratio_place s r' t' c' n y) em ∙ ap (λ n. ratio_place s r' t' c' m' n) ey

module _ (s : RatioSizes) (r t c m y : ℕ) (within : IsWithin s t c m y) where
  pub regrouped_is : regrouped s (ratio_place s r t c m y) ≡ grouped_place s r t c m y
  regrouped_is =
      let p = block_back (r + 1) (region_size s) r (offset_of s t c m y) (omega arith) (offset_below s t c m y within) in
      let by : (d : ℕ) (i : RatioIndex) → ℕ = λ (d : ℕ) (i : RatioIndex). grouped_place s d i.technology i.commodity i.mode i.year in
      ap (λ d. by d (index_at_offset s (ratio_place s r t c m y % region_size s))) p.block
      ∙ ap (λ k. by r (index_at_offset s k)) p.place
      ∙ ap (by r) (index_back s t c m y within)

  pub regrouped_from : (place : ℕ) → regrouped s place ≡ grouped_place s r t c m y → place ≡ ratio_place s r t c m y
  regrouped_from place same =
      let n = region_size s in
      let some = offset_below s t c m y within in
      let rest : place % n < n = omega arith in
      let whole : place ≡ place / n * n + place % n = omega arith in
      let i = index_at_offset s (place % n) in
      whole ∙ ap (λ k. place / n * n + k) (sym (offset_back s (place % n) rest)) ∙ grouped_apart s (place / n) i.technology i.commodity i.mode i.year r t c m y (within_offset s (place % n) rest) within same

-- ---- the place of an index by names

module _ (sets : SetLists) (k1 k2 k3 k4 k5 : ℕ) where
  five_places : (i1 i2 i3 i4 i5 n2 n3 n4 n5 : ℕ) (z : ℕ) → z ≡ i1 → (((z * n2 + i2) * n3 + i3) * n4 + i4) * n5 + i5 ≡ i1 * (n2 * (n3 * (n4 * n5))) + (i2 * (n3 * (n4 * n5)) + (i3 * (n4 * n5) + (i4 * n5 + i5)))
  five_places i1 i2 i3 i4 i5 n2 n3 n4 n5 z e = ap (λ a. (((a * n2 + i2) * n3 + i3) * n4 + i4) * n5 + i5) e ∙ omega arith

  place_of_five : (i1 i2 i3 i4 i5 : ℕ) → i1 < count_in sets k1 → i2 < count_in sets k2 → i3 < count_in sets k3 → i4 < count_in sets k4 → i5 < count_in sets k5 → IsPlaceOf sets (k1 ∷ k2 ∷ k3 ∷ k4 ∷ k5 ∷ []) (names_over sets (k1 ∷ k2 ∷ k3 ∷ k4 ∷ k5 ∷ []) (i1 ∷ i2 ∷ i3 ∷ i4 ∷ i5 ∷ [])) (i1 * (count_in sets k2 * (count_in sets k3 * (count_in sets k4 * count_in sets k5))) + (i2 * (count_in sets k3 * (count_in sets k4 * count_in sets k5)) + (i3 * (count_in sets k4 * count_in sets k5) + (i4 * count_in sets k5 + i5))))
  place_of_five i1 i2 i3 i4 i5 b1 b2 b3 b4 b5 =
      let name = λ (k i : ℕ). slice_index_or (members sets k) i [] in
      let p1 = place_more sets [] [] 0 k1 i1 (place_none sets) b1 in
      let p2 = place_more sets (k1 ∷ []) (name k1 i1 ∷ []) (0 * count_in sets k1 + i1) k2 i2 p1 b2 in
      let p3 = place_more sets (k1 ∷ k2 ∷ []) (name k1 i1 ∷ name k2 i2 ∷ []) ((0 * count_in sets k1 + i1) * count_in sets k2 + i2) k3 i3 p2 b3 in
      let p4 = place_more sets (k1 ∷ k2 ∷ k3 ∷ []) (name k1 i1 ∷ name k2 i2 ∷ name k3 i3 ∷ []) (((0 * count_in sets k1 + i1) * count_in sets k2 + i2) * count_in sets k3 + i3) k4 i4 p3 b4 in
      let p5 = place_more sets (k1 ∷ k2 ∷ k3 ∷ k4 ∷ []) (name k1 i1 ∷ name k2 i2 ∷ name k3 i3 ∷ name k4 i4 ∷ []) ((((0 * count_in sets k1 + i1) * count_in sets k2 + i2) * count_in sets k3 + i3) * count_in sets k4 + i4) k5 i5 p4 b5 in
      subst (IsPlaceOf sets (k1 ∷ k2 ∷ k3 ∷ k4 ∷ k5 ∷ []) (name k1 i1 ∷ name k2 i2 ∷ name k3 i3 ∷ name k4 i4 ∷ name k5 i5 ∷ [])) (five_places i1 i2 i3 i4 i5 (count_in sets k2) (count_in sets k3) (count_in sets k4) (count_in sets k5) (0 * count_in sets k1 + i1) (omega arith)) p5

  five_counts : length (indices_over sets (k1 ∷ k2 ∷ k3 ∷ k4 ∷ k5 ∷ [])) ≡ count_in sets k1 * (count_in sets k2 * (count_in sets k3 * (count_in sets k4 * count_in sets k5)))
  five_counts =
      let c0 : length (indices_over sets []) ≡ 1 = refl in
      let c1 : length (indices_over sets (k1 ∷ [])) ≡ count_in sets k1 = length-push sets [] k1 ∙ ap (λ n. n * count_in sets k1) c0 ∙ omega arith in
      let c2 : length (indices_over sets (k1 ∷ k2 ∷ [])) ≡ count_in sets k1 * count_in sets k2 = length-push sets (k1 ∷ []) k2 ∙ ap (λ n. n * count_in sets k2) c1 in
      let c3 : length (indices_over sets (k1 ∷ k2 ∷ k3 ∷ [])) ≡ count_in sets k1 * count_in sets k2 * count_in sets k3 = length-push sets (k1 ∷ k2 ∷ []) k3 ∙ ap (λ n. n * count_in sets k3) c2 in
      let c4 : length (indices_over sets (k1 ∷ k2 ∷ k3 ∷ k4 ∷ [])) ≡ count_in sets k1 * count_in sets k2 * count_in sets k3 * count_in sets k4 = length-push sets (k1 ∷ k2 ∷ k3 ∷ []) k4 ∙ ap (λ n. n * count_in sets k4) c3 in
      length-push sets (k1 ∷ k2 ∷ k3 ∷ k4 ∷ []) k5 ∙ ap (λ n. n * count_in sets k5) c4 ∙ omega arith

module _ (sets : SetLists) where
  pub place_of_ratio : (ratio : ActivityRatio) (r t c m y : ℕ) → r < count_in sets region → IsWithin (ratio_sizes sets ratio) t c m y → IsPlaceOf sets (subscript_sets (ratio_param ratio)) (names_at sets (ratio_param ratio) (r ∷ t ∷ c ∷ m ∷ y ∷ [])) (ratio_place (ratio_sizes sets ratio) r t c m y)
  place_of_ratio Input r t c m y br within = place_of_five sets region technology fuel mode year r t c m y br within.technology within.commodity within.mode within.year
  place_of_ratio Output r t c m y br within = place_of_five sets region technology fuel mode year r t c m y br within.technology within.commodity within.mode within.year
  place_of_ratio Emission r t c m y br within = place_of_five sets region technology emission mode year r t c m y br within.technology within.commodity within.mode within.year

  pub ratio_counts : (ratio : ActivityRatio) → length (indices_of sets (ratio_param ratio)) ≡ count_in sets region * region_size (ratio_sizes sets ratio)
  ratio_counts Input = five_counts sets region technology fuel mode year
  ratio_counts Output = five_counts sets region technology fuel mode year
  ratio_counts Emission = five_counts sets region technology emission mode year

  -- there are at most 1000 regions
  pub places_below : (ratio : ActivityRatio) (n place : ℕ) → n ≡ region_size (ratio_sizes sets ratio) → count_in sets region ≤ 1000 → place < length (indices_of sets (ratio_param ratio)) → place < 1000 * n
  places_below ratio n place size most below =
      let all : length (indices_of sets (ratio_param ratio)) ≡ count_in sets region * n = ratio_counts ratio ∙ ap (λ m. count_in sets region * m) (sym size) in
      let more : count_in sets region * n ≤ 1000 * n = grind arith in
      omega arith

  pub index_of_ratio : (ratio : ActivityRatio) (r t c m y : ℕ) → r < count_in sets region → IsWithin (ratio_sizes sets ratio) t c m y → IsIndexOf sets (ratio_param ratio) (r ∷ t ∷ c ∷ m ∷ y ∷ [])
  index_of_ratio Input r t c m y br within = (br, (within.technology, (within.commodity, (within.mode, (within.year, tt)))))
  index_of_ratio Output r t c m y br within = (br, (within.technology, (within.commodity, (within.mode, (within.year, tt)))))
  index_of_ratio Emission r t c m y br within = (br, (within.technology, (within.commodity, (within.mode, (within.year, tt)))))
