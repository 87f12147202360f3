-- The refusals of the used parameters, parameter by parameter.
use Rattle.param_tables.proofs.Common.{◌≡◌, ℕ, Bool, true, false, cond, ◌∷◌, ◌+◌, ◌-◌, ◌<◌, List, [], ◌++◌, Some, length, get_or, refl, sym, ap, ◌∙◌, arith, filter, flat_map, range_with_len, append-nil, get_or-range_with_len, length-range_with_len, Data, used_params, IsParam, is_used, param_at, param_count, first_of, Refusal, param_refusals}
use Rattle.param_tables.proofs.TurnLaws.{rest_from, rest_all, rest_free, rest_refused}

-- the refusals of the parameter where the data use it
abbrev pub refusals_if_used : Data → ℕ → List Refusal
refusals_if_used d p = cond (is_used d.second (param_at p).used) (param_refusals d p) []

pub if_used : (d : Data) (p : ℕ) → is_used d.second (param_at p).used ≡ true → param_refusals d p ≡ refusals_if_used d p
if_used d p used = sym (ap (λ b. cond b (param_refusals d p) []) used)

pub if_unused : (d : Data) (p : ℕ) → is_used d.second (param_at p).used ≡ false → refusals_if_used d p ≡ []
if_unused d p unused = ap (λ b. cond b (param_refusals d p) []) unused

flat_map-filter : {X Y : Type 0} (f : X → List Y) (test : X → Bool) (xs : List X) → flat_map f (filter test xs) ≡ flat_map (λ x. cond (test x) (f x) []) xs
flat_map-filter f test [] = refl
flat_map-filter f test (x ∷ xs) = by (test x) (flat_map-filter f test xs)
  where
    by : (b : Bool) → flat_map f (filter test xs) ≡ flat_map (λ y. cond (test y) (f y) []) xs → flat_map f (cond b (x ∷ filter test xs) (filter test xs)) ≡ cond b (f x) [] ++ flat_map (λ y. cond (test y) (f y) []) xs
    by true same = ap (λ ys. f x ++ ys) same
    by false same = same

-- the used parameters one after another are all parameters where they are used
pub used_each : (d : Data) → flat_map (param_refusals d) (used_params d) ≡ flat_map (refusals_if_used d) (range_with_len 1 param_count)
used_each d = flat_map-filter (param_refusals d) (λ n. is_used d.second (param_at n).used) (range_with_len 1 param_count)

-- the refusals from the i-th parameter on
pub params_from : Data → ℕ → List Refusal
params_from d i = rest_from (refusals_if_used d) [] (range_with_len 1 param_count) i

-- no parameter before the i-th is refused
pub AreFreeUpTo : Data → ℕ → Type 0
AreFreeUpTo d i = flat_map (refusals_if_used d) (range_with_len 1 param_count) ++ [] ≡ params_from d i

pub free_none : (d : Data) → AreFreeUpTo d 0
unfolding AreFreeUpTo params_from
free_none d = refl

module _ (d : Data) (p : ℕ) (listed : IsParam p) where
  at_place : get_or (range_with_len 1 param_count) (p - 1) 0 ≡ p
  at_place = let low = listed.0 in let high = listed.1 in get_or-range_with_len 1 param_count (p - 1) 0 (omega arith) ∙ omega arith

  below : p - 1 < length (range_with_len 1 param_count)
  below = let high = listed.1 in let low = listed.0 in omega (arith, length-range_with_len 1 param_count)

  pub free_more : refusals_if_used d p ≡ [] → AreFreeUpTo d (p - 1) → AreFreeUpTo d p
  unfolding AreFreeUpTo params_from
  free_more free so_far =
      let next : p - 1 + 1 ≡ p = let low = listed.0 in omega arith in
      rest_free (refusals_if_used d) [] (range_with_len 1 param_count) (p - 1) 0 (flat_map (refusals_if_used d) (range_with_len 1 param_count) ++ []) below (ap (refusals_if_used d) at_place ∙ free) so_far ∙ ap (params_from d) next

  pub refused_first : (r : Refusal) → first_of (refusals_if_used d p) ≡ Some r → AreFreeUpTo d (p - 1) → first_of (flat_map (param_refusals d) (used_params d)) ≡ Some r
  unfolding AreFreeUpTo params_from
  refused_first r found so_far =
      ap first_of (used_each d ∙ sym (append-nil (flat_map (refusals_if_used d) (range_with_len 1 param_count))))
      ∙ rest_refused (refusals_if_used d) [] (range_with_len 1 param_count) (p - 1) 0 (flat_map (refusals_if_used d) (range_with_len 1 param_count) ++ []) r below (ap (λ n. first_of (refusals_if_used d n)) at_place ∙ found) so_far

pub free_all : (d : Data) → AreFreeUpTo d param_count → flat_map (param_refusals d) (used_params d) ≡ []
unfolding AreFreeUpTo params_from
free_all d free = used_each d ∙ sym (append-nil (flat_map (refusals_if_used d) (range_with_len 1 param_count))) ∙ free ∙ rest_all (refusals_if_used d) [] (range_with_len 1 param_count) param_count (omega (arith, length-range_with_len 1 param_count))
