-- No member of a set that keeps the rules is refused as a member of its copy, and a copy with the same members is the same.
use Rattle.param_tables.proofs.Common.{◌≡◌, ℕ, ◌<◌, Bool, true, false, cond, not, ◌&&◌, List, [], None, Some, length, nat_eq, get_or, take, refl, sym, ap, ◌∙◌, true≢false, arith, nat_le, if◌then◌else◌, bytes_eq, eqb-true, lt-leb, get_or-take, get_or_default, length-take, list_any_none, apart_from_distinct, bytes_eq-Decides, limit_of, year, is_year}
use Rattle.model_sets.specs.Members.{SetLists, KeepsRules, bad_year, first_refusal, is_among, members, too_many, twice_in_set}

turned : (x y : List ℕ) → bytes_eq y x ≡ false → bytes_eq x y ≡ false
turned x y apart = go (bytes_eq x y) refl
  where
    go : (b : Bool) → bytes_eq x y ≡ b → b ≡ false
    go true same = let other : bytes_eq y x ≡ true = (bytes_eq-Decides y x).1 (sym ((bytes_eq-Decides x y).0 same)) in absurd (true≢false (sym other ∙ apart))
    go false same = refl

module _ (k : ℕ) (names : List (List ℕ)) (keeps : KeepsRules k names) (i : ℕ) (below : i < length names) where
  abbrev name : List ℕ
  name = get_or names i []

  a_year : (nat_eq k year && not (is_year name)) ≡ false
  a_year = go (nat_eq k year) refl
    where
      go : (b : Bool) → nat_eq k year ≡ b → (b && not (is_year name)) ≡ false
      go true is = ap not (keeps.years (eqb-true k year is) i [] below)
      go false is = refl

  -- it isn't among those before it
  a_new_one : is_among (take i names) name ≡ false
  a_new_one = list_any_none (bytes_eq name) (take i names) (λ j d short.
      let before : j < i = let long = length-take i names in omega arith in
      let inside : j < length names = omega arith in
      let at : get_or (take i names) j d ≡ get_or names j [] = get_or-take i names j d before ∙ get_or_default names j d [] inside in
      ap (bytes_eq name) at ∙ turned name (get_or names j []) (apart_from_distinct bytes_eq names j i [] keeps.distinct before below))

  not_too_many : nat_le (limit_of k) (length (take i names)) ≡ false
  not_too_many = lt-leb (limit_of k) (length (take i names)) (let long = length-take i names in omega (arith, keeps.within))

  pub none_refused : (copy : SetLists) → members copy k ≡ take i names → first_refusal copy k name ≡ None
  none_refused copy so_far =
      ap (λ b. cond b (Some bad_year) (if is_among (members copy k) name then Some twice_in_set else if nat_le (limit_of k) (length (members copy k)) then Some too_many else None)) a_year
      ∙ ap (λ ms. if is_among ms name then Some twice_in_set else if nat_le (limit_of k) (length ms) then Some too_many else None) so_far
      ∙ ap (λ b. if b then Some twice_in_set else if nat_le (limit_of k) (length (take i names)) then Some too_many else None) a_new_one
      ∙ ap (λ b. if b then Some too_many else None) not_too_many
