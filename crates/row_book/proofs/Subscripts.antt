-- The subscripts of an index, one by one, and which variables exist at them.
use Rattle.row_book.proofs.Common.{◌≡◌, ℕ, zero, suc, ◌+◌, ◌≤◌, Bool, true, false, ◌&&◌, List, [], ◌∷◌, nat_eq, nat_lt, refl, arith, lt-ltb, eqb-true, both_true, AllByRecursion, list_any, range_with_len, if◌then◌else◌, Data, Index, Var, exists, exists_at, kind_numbers, subscripts_of_kind, index, at_r, at_re, at_rey, at_rfy, at_rlfy, at_rltfmy, at_rltfy, at_rltmy, at_rlty, at_rly, at_rrrfy, at_rrrlfy, at_rt, at_rtemy, at_rtey, at_rtfy, at_rtmy, at_rty, at_ry, is_index, is_one_of, is_value_at, count_of, positions, tidied}
use Rattle.model_sets.specs.Names as sets
use Rattle.row_core.specs.Subscripts as place

-- each subscript takes one of its values
pub record AreValues (d : Data) (s : List ℕ) (i : Index) : Type 0 where
  pub region : is_value_at d s place.r i.region ≡ true
  pub other : is_value_at d s place.rr i.other ≡ true
  pub slice : is_value_at d s place.l i.slice ≡ true
  pub tech : is_value_at d s place.t i.tech ≡ true
  pub fuel : is_value_at d s place.f i.fuel ≡ true
  pub emission : is_value_at d s place.e i.emission ≡ true
  pub mode : is_value_at d s place.m i.mode ≡ true
  pub year : is_value_at d s place.y i.year ≡ true

eight : (a b c d e f g h : Bool) → (a && b && c && d && e && f && g && h) ≡ true
    → (a ≡ true) × (b ≡ true) × (c ≡ true) × (d ≡ true) × (e ≡ true) × (f ≡ true) × (g ≡ true) × (h ≡ true)
eight true true true true true true true true all = (refl, refl, refl, refl, refl, refl, refl, refl)
eight false b c d e f g h all = absurd (cc all)
eight true false c d e f g h all = absurd (cc all)
eight true true false d e f g h all = absurd (cc all)
eight true true true false e f g h all = absurd (cc all)
eight true true true true false f g h all = absurd (cc all)
eight true true true true true false g h all = absurd (cc all)
eight true true true true true true false h all = absurd (cc all)
eight true true true true true true true false all = absurd (cc all)

pub values-from_index : (d : Data) (s : List ℕ) (i : Index) → is_index d s i ≡ true → AreValues d s i
values-from_index d s i passes =
    let parts =
    eight (is_value_at d s place.r i.region) (is_value_at d s place.rr i.other) (is_value_at d s place.l i.slice) (is_value_at d s place.t i.tech)
    (is_value_at d s place.f i.fuel) (is_value_at d s place.e i.emission) (is_value_at d s place.m i.mode) (is_value_at d s place.y i.year) passes in
    record { region = parts.0; other = parts.1; slice = parts.2; tech = parts.3; fuel = parts.4; emission = parts.5; mode = parts.6; year = parts.7 }

pub index-from_values : (d : Data) (s : List ℕ) (i : Index) → AreValues d s i → is_index d s i ≡ true
index-from_values d s i are =
    both_true (both_true (both_true (both_true (both_true (both_true (both_true are.region are.other) are.slice) are.tech) are.fuel) are.emission) are.mode) are.year

-- the subscript is the position of a member
abbrev pub In : Data → ℕ → ℕ → Type 0
In d set i = nat_lt i (count_of d set) ≡ true

pub values-rltmy : (d : Data) (r l t m y : ℕ) → In d sets.region r → In d sets.timeslice l → In d sets.technology t → In d sets.mode m → In d sets.year y
    → AreValues d (place.r ∷ place.l ∷ place.t ∷ place.m ∷ place.y ∷ []) (at_rltmy r l t m y)
values-rltmy d r l t m y in_r in_l in_t in_m in_y =
    record { region = in_r; other = refl; slice = in_l; tech = in_t; fuel = refl; emission = refl; mode = in_m; year = in_y }

pub values-rty : (d : Data) (r t y : ℕ) → In d sets.region r → In d sets.technology t → In d sets.year y
    → AreValues d (place.r ∷ place.t ∷ place.y ∷ []) (at_rty r t y)
values-rty d r t y in_r in_t in_y =
    record { region = in_r; other = refl; slice = refl; tech = in_t; fuel = refl; emission = refl; mode = refl; year = in_y }

pub values-rrrlfy : (d : Data) (r rr l f y : ℕ) → In d sets.region r → In d sets.region rr → In d sets.timeslice l → In d sets.fuel f → In d sets.year y
    → AreValues d (place.r ∷ place.rr ∷ place.l ∷ place.f ∷ place.y ∷ []) (at_rrrlfy r rr l f y)
values-rrrlfy d r rr l f y in_r in_rr in_l in_f in_y =
    record { region = in_r; other = in_rr; slice = in_l; tech = refl; fuel = in_f; emission = refl; mode = refl; year = in_y }

pub values-rlfy : (d : Data) (r l f y : ℕ) → In d sets.region r → In d sets.timeslice l → In d sets.fuel f → In d sets.year y
    → AreValues d (place.r ∷ place.l ∷ place.f ∷ place.y ∷ []) (at_rlfy r l f y)
values-rlfy d r l f y in_r in_l in_f in_y =
    record { region = in_r; other = refl; slice = in_l; tech = refl; fuel = in_f; emission = refl; mode = refl; year = in_y }

pub values-rlty : (d : Data) (r l t y : ℕ) → In d sets.region r → In d sets.timeslice l → In d sets.technology t → In d sets.year y
    → AreValues d (place.r ∷ place.l ∷ place.t ∷ place.y ∷ []) (at_rlty r l t y)
values-rlty d r l t y in_r in_l in_t in_y =
    record { region = in_r; other = refl; slice = in_l; tech = in_t; fuel = refl; emission = refl; mode = refl; year = in_y }

pub values-rltfmy : (d : Data) (r l t f m y : ℕ) → In d sets.region r → In d sets.timeslice l → In d sets.technology t → In d sets.fuel f → In d sets.mode m → In d sets.year y
    → AreValues d (place.r ∷ place.l ∷ place.t ∷ place.f ∷ place.m ∷ place.y ∷ []) (at_rltfmy r l t f m y)
values-rltfmy d r l t f m y in_r in_l in_t in_f in_m in_y =
    record { region = in_r; other = refl; slice = in_l; tech = in_t; fuel = in_f; emission = refl; mode = in_m; year = in_y }

pub values-rltfy : (d : Data) (r l t f y : ℕ) → In d sets.region r → In d sets.timeslice l → In d sets.technology t → In d sets.fuel f → In d sets.year y
    → AreValues d (place.r ∷ place.l ∷ place.t ∷ place.f ∷ place.y ∷ []) (at_rltfy r l t f y)
values-rltfy d r l t f y in_r in_l in_t in_f in_y =
    record { region = in_r; other = refl; slice = in_l; tech = in_t; fuel = in_f; emission = refl; mode = refl; year = in_y }

pub values-rfy : (d : Data) (r f y : ℕ) → In d sets.region r → In d sets.fuel f → In d sets.year y
    → AreValues d (place.r ∷ place.f ∷ place.y ∷ []) (at_rfy r f y)
values-rfy d r f y in_r in_f in_y =
    record { region = in_r; other = refl; slice = refl; tech = refl; fuel = in_f; emission = refl; mode = refl; year = in_y }

pub values-rrrfy : (d : Data) (r rr f y : ℕ) → In d sets.region r → In d sets.region rr → In d sets.fuel f → In d sets.year y
    → AreValues d (place.r ∷ place.rr ∷ place.f ∷ place.y ∷ []) (at_rrrfy r rr f y)
values-rrrfy d r rr f y in_r in_rr in_f in_y =
    record { region = in_r; other = in_rr; slice = refl; tech = refl; fuel = in_f; emission = refl; mode = refl; year = in_y }

pub values-rtmy : (d : Data) (r t m y : ℕ) → In d sets.region r → In d sets.technology t → In d sets.mode m → In d sets.year y
    → AreValues d (place.r ∷ place.t ∷ place.m ∷ place.y ∷ []) (at_rtmy r t m y)
values-rtmy d r t m y in_r in_t in_m in_y =
    record { region = in_r; other = refl; slice = refl; tech = in_t; fuel = refl; emission = refl; mode = in_m; year = in_y }

pub values-rtfy : (d : Data) (r t f y : ℕ) → In d sets.region r → In d sets.technology t → In d sets.fuel f → In d sets.year y
    → AreValues d (place.r ∷ place.t ∷ place.f ∷ place.y ∷ []) (at_rtfy r t f y)
values-rtfy d r t f y in_r in_t in_f in_y =
    record { region = in_r; other = refl; slice = refl; tech = in_t; fuel = in_f; emission = refl; mode = refl; year = in_y }

pub values-rtemy : (d : Data) (r t e m y : ℕ) → In d sets.region r → In d sets.technology t → In d sets.emission e → In d sets.mode m → In d sets.year y
    → AreValues d (place.r ∷ place.t ∷ place.e ∷ place.m ∷ place.y ∷ []) (at_rtemy r t e m y)
values-rtemy d r t e m y in_r in_t in_e in_m in_y =
    record { region = in_r; other = refl; slice = refl; tech = in_t; fuel = refl; emission = in_e; mode = in_m; year = in_y }

pub values-rtey : (d : Data) (r t e y : ℕ) → In d sets.region r → In d sets.technology t → In d sets.emission e → In d sets.year y
    → AreValues d (place.r ∷ place.t ∷ place.e ∷ place.y ∷ []) (at_rtey r t e y)
values-rtey d r t e y in_r in_t in_e in_y =
    record { region = in_r; other = refl; slice = refl; tech = in_t; fuel = refl; emission = in_e; mode = refl; year = in_y }

pub values-rt : (d : Data) (r t : ℕ) → In d sets.region r → In d sets.technology t → AreValues d (place.r ∷ place.t ∷ []) (at_rt r t)
values-rt d r t in_r in_t =
    record { region = in_r; other = refl; slice = refl; tech = in_t; fuel = refl; emission = refl; mode = refl; year = refl }

pub values-rly : (d : Data) (r l y : ℕ) → In d sets.region r → In d sets.timeslice l → In d sets.year y
    → AreValues d (place.r ∷ place.l ∷ place.y ∷ []) (at_rly r l y)
values-rly d r l y in_r in_l in_y =
    record { region = in_r; other = refl; slice = in_l; tech = refl; fuel = refl; emission = refl; mode = refl; year = in_y }

pub values-ry : (d : Data) (r y : ℕ) → In d sets.region r → In d sets.year y → AreValues d (place.r ∷ place.y ∷ []) (at_ry r y)
values-ry d r y in_r in_y =
    record { region = in_r; other = refl; slice = refl; tech = refl; fuel = refl; emission = refl; mode = refl; year = in_y }

pub values-r : (d : Data) (r : ℕ) → In d sets.region r → AreValues d (place.r ∷ []) (at_r r)
values-r d r in_r =
    record { region = in_r; other = refl; slice = refl; tech = refl; fuel = refl; emission = refl; mode = refl; year = refl }

pub values-rey : (d : Data) (r e y : ℕ) → In d sets.region r → In d sets.emission e → In d sets.year y
    → AreValues d (place.r ∷ place.e ∷ place.y ∷ []) (at_rey r e y)
values-rey d r e y in_r in_e in_y =
    record { region = in_r; other = refl; slice = refl; tech = refl; fuel = refl; emission = in_e; mode = refl; year = in_y }

pub values-re : (d : Data) (r e : ℕ) → In d sets.region r → In d sets.emission e → AreValues d (place.r ∷ place.e ∷ []) (at_re r e)
values-re d r e in_r in_e =
    record { region = in_r; other = refl; slice = refl; tech = refl; fuel = refl; emission = in_e; mode = refl; year = refl }

-- ---- positions

range-in : (d : Data) (k a n : ℕ) → a + n ≤ count_of d k → AllByRecursion (In d k) (range_with_len a n)
range-in d k a zero within = tt
range-in d k a (suc n) within = (lt-ltb a (count_of d k) (omega (arith, within)), range-in d k (a + 1) n (omega (arith, within)))

-- each position of a set is one of a member
pub positions-in : (d : Data) (k : ℕ) → AllByRecursion (In d k) (positions d k)
positions-in d k = range-in d k 0 (count_of d k) (omega arith)

-- ---- variables

-- a variable of a kind that exists at its subscripts
pub exists-from_values : (d : Data) (v : Var) → list_any (nat_eq v.kind) kind_numbers ≡ true → AreValues d (subscripts_of_kind v.kind) v.index → exists_at d v.kind v.index ≡ true
    → exists d v ≡ true
exists-from_values d v listed are stands = both_true (both_true listed (index-from_values d (subscripts_of_kind v.kind) v.index are)) stands

-- ---- an index has 0 for the subscripts that aren't asked for

tidy-value : (b : Bool) (i n : ℕ) → (if b then nat_lt i n else nat_eq i 0) ≡ true → i ≡ (if b then i else 0)
tidy-value true i n passes = refl
tidy-value false i n passes = eqb-true i 0 passes

same_index : (a b c d e f g h a' b' c' d' e' f' g' h' : ℕ) → a ≡ a' → b ≡ b' → c ≡ c' → d ≡ d' → e ≡ e' → f ≡ f' → g ≡ g' → h ≡ h'
    → index a b c d e f g h ≡ index a' b' c' d' e' f' g' h'
same_index a b c d e f g h a' b' c' d' e' f' g' h' p q r s t u v w = cc

pub index-tidied : (d : Data) (s : List ℕ) (i : Index) → AreValues d s i → i ≡ tidied s i
index-tidied d s i are =
    same_index i.region i.other i.slice i.tech i.fuel i.emission i.mode i.year
    (tidied s i).region (tidied s i).other (tidied s i).slice (tidied s i).tech (tidied s i).fuel (tidied s i).emission (tidied s i).mode (tidied s i).year
    (tidy-value (is_one_of s place.r) i.region _ are.region)
    (tidy-value (is_one_of s place.rr) i.other _ are.other)
    (tidy-value (is_one_of s place.l) i.slice _ are.slice)
    (tidy-value (is_one_of s place.t) i.tech _ are.tech)
    (tidy-value (is_one_of s place.f) i.fuel _ are.fuel)
    (tidy-value (is_one_of s place.e) i.emission _ are.emission)
    (tidy-value (is_one_of s place.m) i.mode _ are.mode)
    (tidy-value (is_one_of s place.y) i.year _ are.year)
