-- Where the ratios of kept data aren't 0: what is found among the places is what the data say.
use Rattle.param_tables.proofs.Common.{◌≡◌, ℕ, ◌+◌, ◌-◌, ◌*◌, ◌<◌, ◌≤◌, Bool, true, false, cond, List, [], ◌∷◌, Option, None, Some, pos, nat_eq, length, map, get_or, refl, sym, ap, ◌∙◌, subst, arith, ℤ, Contains, filter, list_any, range_with_len, IsStrictlyIncreasing, option_or, false≢true, get_or-map, length-map, Contains-get_or, Any-from_list_any, list_any_at, get_or-range_with_len, length-range_with_len, IsStrictlyIncreasing-filter, Data, IsUsedParam, unit_capacity, value_of_none, SetLists, names_at, AreBlocks, AreIndicesAt, AreKeptWith, ArePlacesOf, IsPartBetween, IsWithin, group_of, group_size, index_at_offset, is_given_nonzero, is_nonzero_value, places_of, ratio_place, ratio_sizes, region_size, AreMembersFor, IsRegion, IsTechnology, has_nonzero_mode, is_nonzero_in, is_ratio_nonzero, nonzero_indices, nonzero_modes, nonzero_technologies, ratio_param, IsTableFor, IsUsable, entries_of, given_in, value_else, data_by, facts_of, ParamTable, RatioSizes, ActivityRatio, Input, Output, Emission, RatioIndex}
use Rattle.param_tables.specs.declared.ratio_places.AllRatioPlaces.{AllRatioPlaces}
use Rattle.param_tables.proofs.AscendingLaws.{ascending_filter, contains_filter, contains_from_filter, contains_from_map, contains_map}
use Rattle.param_tables.proofs.IndexLaws.{map-map}
use Rattle.param_tables.proofs.NonzeroLaws.{contains_given}
use Rattle.param_tables.proofs.RangeLists.{filter-map, indices_by_place}
use Rattle.param_tables.proofs.RatioPlaceLaws.{offset_back, place_of_ratio, within_offset}
use Rattle.param_tables.proofs.ViewLaws.{value_kept}

-- ---- a default of 0, or none

none_is_zero : (p : ℕ) → is_nonzero_value (value_of_none p) ≡ false
none_is_zero p = by (nat_eq p unit_capacity)
  where
    by : (b : Bool) → is_nonzero_value (cond b (Some (pos 0)) None) ≡ false
    by true = refl
    by false = refl

-- there the value isn't 0 exactly where one is given that isn't
nonzero_if_given : (p : ℕ) (given default : Option ℤ) → is_nonzero_value default ≡ false → is_nonzero_value (option_or given (value_else p default)) ≡ is_nonzero_value given
nonzero_if_given p (Some v) default zero_by_default = refl
nonzero_if_given p None (Some v) zero_by_default = zero_by_default
nonzero_if_given p None None zero_by_default = none_is_zero p

-- the ratios are used in all data
pub ratio_is_used : (d : Data) (ratio : ActivityRatio) → IsUsedParam d (ratio_param ratio)
ratio_is_used d Input = ((omega arith, omega arith), refl)
ratio_is_used d Output = ((omega arith, omega arith), refl)
ratio_is_used d Emission = ((omega arith, omega arith), refl)

pub ratio_is_usable : (ratio : ActivityRatio) → IsUsable (ratio_param ratio)
ratio_is_usable Input = ((omega arith, omega arith), refl)
ratio_is_usable Output = ((omega arith, omega arith), refl)
ratio_is_usable Emission = ((omega arith, omega arith), refl)

-- ---- a test that some number below n passes

pub any_below : (p : ℕ → Bool) (n : ℕ) → list_any p (range_with_len 0 n) ≡ true → (k : ℕ) × (k < n) × (p k ≡ true)
any_below p n found =
    let any = Any-from_list_any p (range_with_len 0 n) found in
    let k = any.0 in
    let x = any.1 in
    let below : k < n = let b = any.2 in omega (arith, length-range_with_len 0 n) in
    let at : x ≡ k = sym any.3 ∙ get_or-range_with_len 0 n k x below ∙ omega arith in
    (k, below, ap p (sym at) ∙ any.4)

pub any_from_below : (p : ℕ → Bool) (n k : ℕ) → k < n → p k ≡ true → list_any p (range_with_len 0 n) ≡ true
any_from_below p n k below passes =
    let at : get_or (range_with_len 0 n) k 0 ≡ k = get_or-range_with_len 0 n k 0 below ∙ omega arith in
    list_any_at p (range_with_len 0 n) k 0 (omega (arith, length-range_with_len 0 n)) (ap p at ∙ passes)

pub none_below : (p : ℕ → Bool) (n : ℕ) → ((k : ℕ) → k < n → p k ≡ false) → false ≡ list_any p (range_with_len 0 n)
none_below p n fail = by (list_any p (range_with_len 0 n)) refl
  where
    by : (b : Bool) → list_any p (range_with_len 0 n) ≡ b → false ≡ list_any p (range_with_len 0 n)
    by true e = let found = any_below p n e in absurd (false≢true (sym (fail found.0 found.1) ∙ found.2))
    by false e = sym e

-- ---- kept data

module _ (sets : SetLists) (tables : List ParamTable) (second : Bool) (all : AllRatioPlaces) (kept : AreKeptWith sets tables second all) (ratio : ActivityRatio) (table : ParamTable) (is : table ≡ get_or tables (ratio_param ratio - 1) table) where
  pub places_kept : ArePlacesOf (ratio_sizes sets ratio) table (places_of all ratio)
  places_kept = subst (λ t. ArePlacesOf (ratio_sizes sets ratio) t (places_of all ratio)) (sym is) (kept.places ratio table)

  table_kept : IsTableFor (data_by sets tables second) (ratio_param ratio) table
  table_kept = subst (IsTableFor (data_by sets tables second) (ratio_param ratio)) (sym is) (kept.kept.tabled.each (ratio_param ratio) (ratio_is_usable ratio) table)

  -- the places of indices ascend
  pub in_order_rises : IsStrictlyIncreasing (places_of all ratio).in_order.items
  in_order_rises = subst IsStrictlyIncreasing (sym places_kept.in_order) (IsStrictlyIncreasing-filter (is_given_nonzero (entries_of table)) table.places.items (table_kept.shape).ascending)

  module _ (zero_by_default : is_nonzero_value table.default ≡ false) where
    nonzero_kept : (r t c m y : ℕ) → IsRegion sets r → IsWithin (ratio_sizes sets ratio) t c m y → is_ratio_nonzero (facts_of sets tables second) ratio r t c m y ≡ is_given_nonzero (entries_of table) (ratio_place (ratio_sizes sets ratio) r t c m y)
    nonzero_kept r t c m y region within =
        let p = ratio_param ratio in
        let place = ratio_place (ratio_sizes sets ratio) r t c m y in
        ap is_nonzero_value (value_kept sets tables second kept.kept p (ratio_is_used (facts_of sets tables second) ratio) (names_at sets p (r ∷ t ∷ c ∷ m ∷ y ∷ [])) place (place_of_ratio sets ratio r t c m y region within) table is)
        ∙ nonzero_if_given p (given_in (entries_of table) place) table.default zero_by_default

    -- the places of the grouped indices of a region, commodity and year
    module _ (r c y : ℕ) (members : AreMembersFor sets ratio r c y) where
      abbrev sizes : RatioSizes
      sizes = ratio_sizes sets ratio

      abbrev first : ℕ
      first = group_of sizes r c y * group_size sizes

      within_all : (t m : ℕ) → t < sizes.technologies → m < sizes.modes → IsWithin sizes t c m y
      within_all t m technology mode = record { technology = technology; commodity = members.commodity; mode = mode; year = members.year }

      -- such an index is among them exactly where the ratio isn't 0
      nonzero_from_place : (t m : ℕ) → t < sizes.technologies → m < sizes.modes → Contains (places_of all ratio).grouped.items (first + (t * sizes.modes + m)) → is_ratio_nonzero (facts_of sets tables second) ratio r t c m y ≡ true
      nonzero_from_place t m technology mode has =
          let within = within_all t m technology mode in
          nonzero_kept r t c m y members.region within ∙ (places_kept.grouped r t c m y within).0 has

      place_from_nonzero : (t m : ℕ) → t < sizes.technologies → m < sizes.modes → is_ratio_nonzero (facts_of sets tables second) ratio r t c m y ≡ true → Contains (places_of all ratio).grouped.items (first + (t * sizes.modes + m))
      place_from_nonzero t m technology mode nonzero =
          let within = within_all t m technology mode in
          (places_kept.grouped r t c m y within).1 (sym (nonzero_kept r t c m y members.region within) ∙ nonzero)

      pub modes_listed : (t : ℕ) (modes : List ℕ) → IsTechnology sets t → AreBlocks (places_of all ratio).grouped.items (first + t * sizes.modes) 1 sizes.modes modes → modes ≡ nonzero_modes (facts_of sets tables second) ratio r t c y
      modes_listed t modes technology are = ascending_filter (λ m. is_ratio_nonzero (facts_of sets tables second) ratio r t c m y) sizes.modes modes are.rising
          (λ m has.
          let found = are.inside m has in
          let i = found.1.0 in
          let single : i < 1 = found.1.1 in
          let at : first + t * sizes.modes + (m * 1 + i) ≡ first + (t * sizes.modes + m) = omega arith in
          (found.0, nonzero_from_place t m technology found.0 (subst (Contains (places_of all ratio).grouped.items) at found.1.2)))
          (λ m below nonzero.
          let at : first + (t * sizes.modes + m) ≡ first + t * sizes.modes + (m * 1 + 0) = omega arith in
          are.all m 0 below (omega arith) (subst (Contains (places_of all ratio).grouped.items) at (place_from_nonzero t m technology below nonzero)))

      pub technologies_listed : (technologies : List ℕ) → AreBlocks (places_of all ratio).grouped.items first sizes.modes sizes.technologies technologies → technologies ≡ nonzero_technologies (facts_of sets tables second) ratio r c y
      technologies_listed technologies are = ascending_filter (λ t. has_nonzero_mode (facts_of sets tables second) ratio r t c y) sizes.technologies technologies are.rising
          (λ t has.
          let found = are.inside t has in
          let m = found.1.0 in
          (found.0, any_from_below (λ n. is_ratio_nonzero (facts_of sets tables second) ratio r t c n y) sizes.modes m found.1.1 (nonzero_from_place t m found.0 found.1.1 found.1.2)))
          (λ t below nonzero.
          let found = any_below (λ n. is_ratio_nonzero (facts_of sets tables second) ratio r t c n y) sizes.modes nonzero in
          are.all t found.0 below found.1 (place_from_nonzero t found.0 below found.1 found.2))

    -- the places of the indices of a region
    module _ (r : ℕ) (region : IsRegion sets r) where
      abbrev s : RatioSizes
      s = ratio_sizes sets ratio

      abbrev start : ℕ
      start = r * region_size s

      abbrev in_order : List ℕ
      in_order = (places_of all ratio).in_order.items

      abbrev nonzero_at : ℕ → Bool
      nonzero_at offset = is_nonzero_in (facts_of sets tables second) ratio r (index_at_offset s offset)

      place_at : (offset : ℕ) → offset < region_size s → nonzero_at offset ≡ is_given_nonzero (entries_of table) (start + offset)
      place_at offset below =
          let i = index_at_offset s offset in
          nonzero_kept r i.technology i.commodity i.mode i.year region (within_offset s offset below)
          ∙ ap (λ n. is_given_nonzero (entries_of table) (start + n)) (offset_back s offset below)

      offsets_rise : (part : List ℕ) → IsPartBetween in_order start (start + region_size s) part → IsStrictlyIncreasing (map (λ p. p - start) part)
      offsets_rise part between k below =
          let long : length (map (λ p. p - start) part) ≡ length part = length-map part (λ p. p - start) in
          let here : get_or (map (λ p. p - start) part) k 0 ≡ get_or part k 0 - start = get_or-map (λ p. p - start) part k 0 0 (omega arith) in
          let next : get_or (map (λ p. p - start) part) (k + 1) 0 ≡ get_or part (k + 1) 0 - start = get_or-map (λ p. p - start) part (k + 1) 0 0 (omega arith) in
          let step : get_or part k 0 < get_or part (k + 1) 0 = between.rising k (omega arith) in
          let inside = between.inside (get_or part k 0) (Contains-get_or part k 0 (omega arith)) in
          let low : start ≤ get_or part k 0 = inside.1 in
          omega arith

      offsets_are : (part : List ℕ) → IsPartBetween in_order start (start + region_size s) part → map (λ p. p - start) part ≡ filter nonzero_at (range_with_len 0 (region_size s))
      offsets_are part between = ascending_filter nonzero_at (region_size s) (map (λ p. p - start) part) (offsets_rise part between)
          (λ offset has.
          let found = contains_from_map (λ p. p - start) part offset has in
          let p = found.0 in
          let inside = between.inside p found.1 in
          let low : start ≤ p = inside.1 in
          let high : p < start + region_size s = inside.2 in
          let here : p - start ≡ offset = found.2 in
          let below : offset < region_size s = omega arith in
          let at : p ≡ start + offset = omega arith in
          let given = contains_from_filter (is_given_nonzero (entries_of table)) table.places.items p (subst (λ xs. Contains xs p) places_kept.in_order inside.0) in
          (below, place_at offset below ∙ ap (is_given_nonzero (entries_of table)) (sym at) ∙ given.1))
          (λ offset below nonzero.
          let given : is_given_nonzero (entries_of table) (start + offset) ≡ true = sym (place_at offset below) ∙ nonzero in
          let kept_place : Contains in_order (start + offset) = subst (λ xs. Contains xs (start + offset)) (sym places_kept.in_order) (contains_filter (is_given_nonzero (entries_of table)) table.places.items (start + offset) (contains_given table.places.items table.values.items (start + offset) given) given) in
          let in_part : Contains part (start + offset) = between.all (start + offset) kept_place (omega arith) (omega arith) in
          let back : start + offset - start ≡ offset = omega arith in
          subst (Contains (map (λ p. p - start) part)) back (contains_map (λ p. p - start) part (start + offset) in_part))

      pub indices_listed : (indices : List RatioIndex) → AreIndicesAt s in_order start indices → indices ≡ nonzero_indices (facts_of sets tables second) ratio r
      indices_listed indices are =
          are.listed
          ∙ sym (map-map (index_at_offset s) (λ p. p - start) are.part)
          ∙ ap (map (index_at_offset s)) (offsets_are are.part are.between)
          ∙ sym (filter-map (is_nonzero_in (facts_of sets tables second) ratio r) (index_at_offset s) (range_with_len 0 (region_size s)))
          ∙ ap (filter (is_nonzero_in (facts_of sets tables second) ratio r)) (sym (indices_by_place sets ratio))

-- ---- the same, of data that are seen as these sets and tables

module _ (sets : SetLists) (tables : List ParamTable) (second : Bool) (all : AllRatioPlaces) (kept : AreKeptWith sets tables second all) (ratio : ActivityRatio) (table : ParamTable) (is : table ≡ get_or tables (ratio_param ratio - 1) table) (zero_by_default : is_nonzero_value table.default ≡ false) (d : Data) (seen : facts_of sets tables second ≡ d) (s : RatioSizes) (sizes_are : s ≡ ratio_sizes sets ratio) where
  pub modes_found : (r t c y group : ℕ) (grouped modes : List ℕ) → AreMembersFor d.sets ratio r c y → IsTechnology d.sets t → grouped ≡ (places_of all ratio).grouped.items → group ≡ group_of s r c y → AreBlocks grouped (group * group_size s + t * s.modes) 1 s.modes modes → modes ≡ nonzero_modes d ratio r t c y
  modes_found r t c y group grouped modes members technology places_are group_is blocks =
      let at : (h : List ℕ) (n : ℕ) (z : RatioSizes) → Type 0 = λ (h : List ℕ) (n : ℕ) (z : RatioSizes). AreBlocks h (n * group_size z + t * z.modes) 1 z.modes modes in
      let b1 : at (places_of all ratio).grouped.items group s = subst (λ h. at h group s) places_are blocks in
      let b2 : at (places_of all ratio).grouped.items (group_of s r c y) s = subst (λ n. at (places_of all ratio).grouped.items n s) group_is b1 in
      let b3 : at (places_of all ratio).grouped.items (group_of (ratio_sizes sets ratio) r c y) (ratio_sizes sets ratio) = subst (λ z. at (places_of all ratio).grouped.items (group_of z r c y) z) sizes_are b2 in
      let own : SetLists → Type 0 = λ all_sets. AreMembersFor all_sets ratio r c y in
      let m : AreMembersFor sets ratio r c y = subst own (ap (λ e. e.sets) (sym seen)) members in
      let i : IsTechnology sets t = subst (λ all_sets. IsTechnology all_sets t) (ap (λ e. e.sets) (sym seen)) technology in
      modes_listed sets tables second all kept ratio table is zero_by_default r c y m t modes i b3 ∙ ap (λ e. nonzero_modes e ratio r t c y) seen

  pub technologies_found : (r c y group : ℕ) (grouped technologies : List ℕ) → AreMembersFor d.sets ratio r c y → grouped ≡ (places_of all ratio).grouped.items → group ≡ group_of s r c y → AreBlocks grouped (group * group_size s) s.modes s.technologies technologies → technologies ≡ nonzero_technologies d ratio r c y
  technologies_found r c y group grouped technologies members places_are group_is blocks =
      let at : (h : List ℕ) (n : ℕ) (z : RatioSizes) → Type 0 = λ (h : List ℕ) (n : ℕ) (z : RatioSizes). AreBlocks h (n * group_size z) z.modes z.technologies technologies in
      let b1 : at (places_of all ratio).grouped.items group s = subst (λ h. at h group s) places_are blocks in
      let b2 : at (places_of all ratio).grouped.items (group_of s r c y) s = subst (λ n. at (places_of all ratio).grouped.items n s) group_is b1 in
      let b3 : at (places_of all ratio).grouped.items (group_of (ratio_sizes sets ratio) r c y) (ratio_sizes sets ratio) = subst (λ z. at (places_of all ratio).grouped.items (group_of z r c y) z) sizes_are b2 in
      let own : SetLists → Type 0 = λ all_sets. AreMembersFor all_sets ratio r c y in
      let m : AreMembersFor sets ratio r c y = subst own (ap (λ e. e.sets) (sym seen)) members in
      technologies_listed sets tables second all kept ratio table is zero_by_default r c y m technologies b3 ∙ ap (λ e. nonzero_technologies e ratio r c y) seen

  pub indices_found : (r : ℕ) (listed_places : List ℕ) (indices : List RatioIndex) → IsRegion d.sets r → listed_places ≡ (places_of all ratio).in_order.items → AreIndicesAt s listed_places (r * region_size s) indices → indices ≡ nonzero_indices d ratio r
  indices_found r listed_places indices region places_are listed =
      let at : (h : List ℕ) (z : RatioSizes) → Type 0 = λ (h : List ℕ) (z : RatioSizes). AreIndicesAt z h (r * region_size z) indices in
      let b1 : at (places_of all ratio).in_order.items s = subst (λ h. at h s) places_are listed in
      let b2 : at (places_of all ratio).in_order.items (ratio_sizes sets ratio) = subst (λ z. at (places_of all ratio).in_order.items z) sizes_are b1 in
      let i : IsRegion sets r = subst (λ all_sets. IsRegion all_sets r) (ap (λ e. e.sets) (sym seen)) region in
      indices_listed sets tables second all kept ratio table is zero_by_default r i indices b2 ∙ ap (λ e. nonzero_indices e ratio r) seen
