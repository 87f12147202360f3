-- Where a ratio isn't 0: the indices that are asked, and those without their mode.
use Rattle.row_book.proofs.Common.{◌≡◌, ℕ, Bool, true, false, inl, inr, List, [], ◌∷◌, map, refl, ap, sym, ◌∙◌, subst, IsEquivalence, AllByRecursion, dedup, list_any, IsPermutation, IsSorted, IsStrictlySortedBy, eq_by_cmp, is_eq, ordering_reverse, Ordering, Less, Equal, Greater, eq_by_cmp_equiv, Contains-dedup, Contains-from_dedup, IsStrictlySortedBy-dedup, Contains-permutation, IsPermutation-sym, index_cmp, index_cmp_exact, Data, Index, ActivityRatio, Input, Output, Emission, at_r, index, values_at, modes, from_e, from_f, from_m, from_y, sorted_t, Contains-from_Has, Has, Has-flat_map, Has-from_Contains, flat_map_parts, Every, Sorted, Sorted-filter, cells_of_ratio, cells_of_some_mode, has_ratio, has_some_ratio, ratio_subscripts, subscripts_but_mode, with_mode, inner_subscripts, walk}
use Rattle.std.specs.Prelude.{◌||◌}
use Rattle.row_core.specs.OrderLaws.{index_cmp_total}
use Rattle.row_core.specs.Subscripts as place
use Rattle.row_book.proofs.Elements.{Has-filter, Has-map, filter_parts, map_parts}

-- ---- what is walked

-- an index among those that are walked in a region
record IsWalked (d : Data) (s : List ℕ) (r : ℕ) (i : Index) : Type 0 where
  tech : ℕ
  fuel : ℕ
  emission : ℕ
  mode : ℕ
  year : ℕ
  of_tech : Has (values_at d s place.t) tech
  of_fuel : Has (values_at d s place.f) fuel
  of_emission : Has (values_at d s place.e) emission
  of_mode : Has (values_at d s place.m) mode
  of_year : Has (values_at d s place.y) year
  is : index r 0 0 tech fuel emission mode year ≡ i

only_one : {A : Type 0} (z x : A) → Has (z ∷ []) x → z ≡ x
only_one z x (inl e) = e
only_one z x (inr h) = absurd h

walked-parts : (d : Data) (s : List ℕ) (r : ℕ) (i : Index) → Has (walk d s inner_subscripts (at_r r)) i → IsWalked d s r i
walked-parts d s r i h =
    let q3 = flat_map_parts (λ t. from_f d s r 0 0 t) (values_at d s place.t) i h in
    let q4 = flat_map_parts (λ f. from_e d s r 0 0 q3.0 f) (values_at d s place.f) i q3.2 in
    let q5 = flat_map_parts (λ e. from_m d s r 0 0 q3.0 q4.0 e) (values_at d s place.e) i q4.2 in
    let q6 = flat_map_parts (λ m. from_y d s r 0 0 q3.0 q4.0 q5.0 m) (values_at d s place.m) i q5.2 in
    let q7 = flat_map_parts (λ y. index r 0 0 q3.0 q4.0 q5.0 q6.0 y ∷ []) (values_at d s place.y) i q6.2 in
    record {
      tech = q3.0;
      fuel = q4.0;
      emission = q5.0;
      mode = q6.0;
      year = q7.0;
      of_tech = q3.1;
      of_fuel = q4.1;
      of_emission = q5.1;
      of_mode = q6.1;
      of_year = q7.1;
      is = only_one (index r 0 0 q3.0 q4.0 q5.0 q6.0 q7.0) i q7.2;
    }

walked-has : (d : Data) (s : List ℕ) (r : ℕ) (i : Index) → IsWalked d s r i → Has (walk d s inner_subscripts (at_r r)) i
walked-has d s r i w =
    subst (λ j. Has (walk d s inner_subscripts (at_r r)) j) w.is
    (Has-flat_map (λ t. from_f d s r 0 0 t) (values_at d s place.t) w.tech _ w.of_tech
    (Has-flat_map (λ f. from_e d s r 0 0 w.tech f) (values_at d s place.f) w.fuel _ w.of_fuel
    (Has-flat_map (λ e. from_m d s r 0 0 w.tech w.fuel e) (values_at d s place.e) w.emission _ w.of_emission
    (Has-flat_map (λ m. from_y d s r 0 0 w.tech w.fuel w.emission m) (values_at d s place.m) w.mode _ w.of_mode
    (Has-flat_map (λ y. index r 0 0 w.tech w.fuel w.emission w.mode y ∷ []) (values_at d s place.y) w.year _ w.of_year (inl refl))))))

-- these subscripts are those but for the mode
record DropsMode (d : Data) (s but : List ℕ) : Type 0 where
  tech : values_at d s place.t ≡ values_at d but place.t
  fuel : values_at d s place.f ≡ values_at d but place.f
  emission : values_at d s place.e ≡ values_at d but place.e
  year : values_at d s place.y ≡ values_at d but place.y
  modes_are : values_at d s place.m ≡ modes d
  none : values_at d but place.m ≡ 0 ∷ []

drops-mode : (d : Data) (ratio : ActivityRatio) → DropsMode d (ratio_subscripts ratio) (subscripts_but_mode ratio)
drops-mode d Input = record { tech = refl; fuel = refl; emission = refl; year = refl; modes_are = refl; none = refl }
drops-mode d Output = record { tech = refl; fuel = refl; emission = refl; year = refl; modes_are = refl; none = refl }
drops-mode d Emission = record { tech = refl; fuel = refl; emission = refl; year = refl; modes_are = refl; none = refl }

-- without its mode an index of the first walk is one of the second
walked-without : (d : Data) (s but : List ℕ) (r : ℕ) (i : Index) → DropsMode d s but → IsWalked d s r i → IsWalked d but r (with_mode 0 i)
walked-without d s but r i drops w = record {
  tech = w.tech;
  fuel = w.fuel;
  emission = w.emission;
  mode = 0;
  year = w.year;
  of_tech = subst (λ vs. Has vs w.tech) drops.tech w.of_tech;
  of_fuel = subst (λ vs. Has vs w.fuel) drops.fuel w.of_fuel;
  of_emission = subst (λ vs. Has vs w.emission) drops.emission w.of_emission;
  of_mode = subst (λ vs. Has vs 0) (sym drops.none) (inl refl);
  of_year = subst (λ vs. Has vs w.year) drops.year w.of_year;
  is = ap (with_mode 0) w.is;
}

-- with a mode an index of the second is one of the first
walked-with : (d : Data) (s but : List ℕ) (r m : ℕ) (i : Index) → DropsMode d s but → Has (modes d) m → IsWalked d but r i → IsWalked d s r (with_mode m i)
walked-with d s but r m i drops in_modes w = record {
  tech = w.tech;
  fuel = w.fuel;
  emission = w.emission;
  mode = m;
  year = w.year;
  of_tech = subst (λ vs. Has vs w.tech) (sym drops.tech) w.of_tech;
  of_fuel = subst (λ vs. Has vs w.fuel) (sym drops.fuel) w.of_fuel;
  of_emission = subst (λ vs. Has vs w.emission) (sym drops.emission) w.of_emission;
  of_mode = subst (λ vs. Has vs m) (sym drops.modes_are) in_modes;
  of_year = subst (λ vs. Has vs w.year) (sym drops.year) w.of_year;
  is = ap (with_mode m) w.is;
}

-- it has no mode of its own
walked-mode : (d : Data) (s but : List ℕ) (r m : ℕ) (i : Index) → DropsMode d s but → IsWalked d but r i → with_mode 0 (with_mode m i) ≡ i
walked-mode d s but r m i drops w =
    let none : w.mode ≡ 0 = sym (only_one 0 w.mode (subst (λ vs. Has vs w.mode) drops.none w.of_mode)) in
    ap (with_mode 0) (sym w.is) ∙ ap (λ k. index r 0 0 w.tech w.fuel w.emission k w.year) (sym none) ∙ w.is

-- ---- tests of some element

any-has : (test : ℕ → Bool) (ns : List ℕ) (n : ℕ) → Has ns n → test n ≡ true → list_any test ns ≡ true
any-has test [] n h passes = absurd h
any-has test (k ∷ ns) n (inl e) passes = ap (λ b. b || list_any test ns) (ap test e ∙ passes)
any-has test (k ∷ ns) n (inr h) passes = or_later (test k) (list_any test ns) (any-has test ns n h passes)
  where
    or_later : (a b : Bool) → b ≡ true → (a || b) ≡ true
    or_later true b e = refl
    or_later false b e = e

pub has-any : (test : ℕ → Bool) (ns : List ℕ) → list_any test ns ≡ true → (n : ℕ) × (Has ns n × (test n ≡ true))
has-any test [] passes = absurd (cc passes)
has-any test (k ∷ ns) passes = by_test (test k) refl passes (has-any test ns)
  where
    by_test : (b : Bool) → test k ≡ b → (b || list_any test ns) ≡ true → (list_any test ns ≡ true → (n : ℕ) × (Has ns n × (test n ≡ true))) → (n : ℕ) × (Has (k ∷ ns) n × (test n ≡ true))
    by_test true is e rest = (k, (inl refl, is))
    by_test false is e rest = let found = rest e in (found.0, (inr found.1.0, found.1.1))

-- ---- two sorted lists with the same elements

never : (o : Ordering) → o ≡ Less → o ≡ Greater → ⊥
never o less greater = cc

both_less : (a b : Index) → index_cmp a b ≡ Less → index_cmp b a ≡ Less → ⊥
both_less a b less other = never (index_cmp a b) less (index_cmp_total.antisymm a b ∙ ap ordering_reverse other)

every-has : {A : Type 0} (P : A → Type 0) (xs : List A) (x : A) → Every P xs → Has xs x → P x
every-has P [] x of_all has = absurd has
every-has P (y ∷ xs) x of_all (inl e) = subst P e of_all.0
every-has P (y ∷ xs) x of_all (inr has) = every-has P xs x of_all.1 has

first_same : (x y : Index) (xs ys : List Index) → Sorted index_cmp (x ∷ xs) → Sorted index_cmp (y ∷ ys) → Has (y ∷ ys) x → Has (x ∷ xs) y → x ≡ y
first_same x y xs ys s t (inl e) back = sym e
first_same x y xs ys s t (inr there) (inl e) = e
first_same x y xs ys s t (inr there) (inr back) =
    absurd (both_less x y (every-has (λ z. index_cmp x z ≡ Less) xs y s.0 back) (every-has (λ z. index_cmp y z ≡ Less) ys x t.0 there))

later_has : (x y z : Index) (xs ys : List Index) → Sorted index_cmp (x ∷ xs) → x ≡ y → Has xs z → Has (y ∷ ys) z → Has ys z
later_has x y z xs ys s same here (inl e) =
    let less : index_cmp x z ≡ Less = every-has (λ w. index_cmp x w ≡ Less) xs z s.0 here in
    let is : x ≡ z = same ∙ e in
    absurd (both_less x z less (subst (λ w. index_cmp w x ≡ Less) is (subst (λ w. index_cmp x w ≡ Less) (sym is) less)))
later_has x y z xs ys s same here (inr there) = there

pub same_sorted : (xs ys : List Index) → Sorted index_cmp xs → Sorted index_cmp ys → ((z : Index) → Has xs z → Has ys z) → ((z : Index) → Has ys z → Has xs z) → xs ≡ ys
same_sorted [] [] s t to from = refl
same_sorted [] (y ∷ ys) s t to from = absurd (from y (inl refl))
same_sorted (x ∷ xs) [] s t to from = absurd (to x (inl refl))
same_sorted (x ∷ xs) (y ∷ ys) s t to from =
    let same : x ≡ y = first_same x y xs ys s t (to x (inl refl)) (from y (inl refl)) in
    let rest : xs ≡ ys =
    same_sorted xs ys s.1 t.1
    (λ z h. later_has x y z xs ys s same h (to z (inr h)))
    (λ z h. later_has y x z ys xs t (sym same) h (from z (inr h))) in
    cc

-- ---- the cells in some mode

every_from : (P : Index → Type 0) (xs : List Index) → AllByRecursion P xs → Every P xs
every_from P [] of_all = tt
every_from P (x ∷ xs) of_all = (of_all.0, every_from P xs of_all.1)

sorted_from : (xs : List Index) → IsStrictlySortedBy index_cmp xs → Sorted index_cmp xs
unfolding IsStrictlySortedBy
sorted_from [] sorted = tt
sorted_from (x ∷ xs) sorted = (every_from (λ y. index_cmp x y ≡ Less) xs sorted.0, sorted_from xs sorted.1)

same-equivalence : (same : Index → Index → Bool) → ((v w : Index) → same v w ≡ eq_by_cmp index_cmp v w) → IsEquivalence same
same-equivalence same ties =
    let e : IsEquivalence (eq_by_cmp index_cmp) = eq_by_cmp_equiv index_cmp_total in
    record {
      refl = λ v. ties v v ∙ e.refl v;
      symm = λ v w. ties v w ∙ e.symm v w ∙ sym (ties w v);
      congr = λ v w u h. ties v u ∙ e.congr v w u (sym (ties v w) ∙ h) ∙ sym (ties w u);
    }

alike : (o : Ordering) → is_eq o ≡ true → o ≡ Equal
alike Less h = absurd (cc h)
alike Equal h = refl
alike Greater h = absurd (cc h)

-- a cell of some mode is one without its mode, and the other way round
to_some : (d : Data) (ratio : ActivityRatio) (r : ℕ) (i : Index) → Has (map (with_mode 0) (cells_of_ratio d ratio r)) i → Has (cells_of_some_mode d ratio r) i
to_some d ratio r i h =
    let s = ratio_subscripts ratio in
    let but = subscripts_but_mode ratio in
    let drops = drops-mode d ratio in
    let mapped = map_parts (with_mode 0) (cells_of_ratio d ratio r) i h in
    let passed = filter_parts (has_ratio d ratio) (walk d s inner_subscripts (at_r r)) mapped.0 mapped.1 in
    let w = walked-parts d s r mapped.0 passed.0 in
    let of_mode : Has (modes d) w.mode = subst (λ vs. Has vs w.mode) drops.modes_are w.of_mode in
    let mode : Has (modes d) mapped.0.mode = subst (λ (j : Index). Has (modes d) j.mode) w.is of_mode in
    subst (λ j. Has (cells_of_some_mode d ratio r) j) mapped.2
    (Has-filter (has_some_ratio d ratio) (walk d but inner_subscripts (at_r r)) (with_mode 0 mapped.0)
    (walked-has d but r (with_mode 0 mapped.0) (walked-without d s but r mapped.0 drops w))
    (any-has (λ m. has_ratio d ratio (with_mode m mapped.0)) (modes d) mapped.0.mode mode passed.1))

from_some : (d : Data) (ratio : ActivityRatio) (r : ℕ) (i : Index) → Has (cells_of_some_mode d ratio r) i → Has (map (with_mode 0) (cells_of_ratio d ratio r)) i
from_some d ratio r i h =
    let s = ratio_subscripts ratio in
    let but = subscripts_but_mode ratio in
    let drops = drops-mode d ratio in
    let passed = filter_parts (has_some_ratio d ratio) (walk d but inner_subscripts (at_r r)) i h in
    let w = walked-parts d but r i passed.0 in
    let found = has-any (λ m. has_ratio d ratio (with_mode m i)) (modes d) passed.1 in
    let cell : Index = with_mode found.0 i in
    subst (λ j. Has (map (with_mode 0) (cells_of_ratio d ratio r)) j) (walked-mode d s but r found.0 i drops w)
    (Has-map (with_mode 0) (cells_of_ratio d ratio r) cell
    (Has-filter (has_ratio d ratio) (walk d s inner_subscripts (at_r r)) cell
    (walked-has d s r cell (walked-with d s but r found.0 i drops found.1.0 w)) found.1.1))

pub some-mode-cells : (same : Index → Index → Bool) → ((v w : Index) → same v w ≡ eq_by_cmp index_cmp v w) → (d : Data) (ratio : ActivityRatio) (r : ℕ) (in_modes without sorted cells : List Index)
    → in_modes ≡ cells_of_ratio d ratio r → without ≡ map (with_mode 0) in_modes → IsPermutation without sorted → IsSorted index_cmp sorted → cells ≡ dedup same sorted
    → cells ≡ cells_of_some_mode d ratio r
some-mode-cells same ties d ratio r in_modes without sorted cells are are_without permutation in_order distinct =
    let all : without ≡ map (with_mode 0) (cells_of_ratio d ratio r) = are_without ∙ ap (map (with_mode 0)) are in
    let but = subscripts_but_mode ratio in
    distinct
    ∙ same_sorted (dedup same sorted) (cells_of_some_mode d ratio r)
    (sorted_from (dedup same sorted) (IsStrictlySortedBy-dedup index_cmp_total ties sorted in_order))
    (Sorted-filter index_cmp (has_some_ratio d ratio) (walk d but inner_subscripts (at_r r)) (sorted_t d but r 0 0))
    (λ z h.
    to_some d ratio r z
    (subst (λ is. Has is z) all
    (Has-from_Contains without z
    (Contains-permutation sorted without z (IsPermutation-sym without sorted permutation)
    (Contains-from_dedup same sorted z (Contains-from_Has (dedup same sorted) z h))))))
    (λ z h.
    Has-from_Contains (dedup same sorted) z
    (Contains-dedup (same-equivalence same ties) (λ x y e. index_cmp_exact x y (alike (index_cmp x y) (sym (ties x y) ∙ e))) sorted z
    (Contains-permutation without sorted z permutation (Contains-from_Has without z (subst (λ is. Has is z) (sym all) (from_some d ratio r z h))))))
