-- Each quantity of a feasible plan is its defining sum, and where its variable doesn't exist the sum is 0.
use Rattle.plan_quantities.proofs.Common.{◌≡◌, ℕ, ℤ, pos, ◌*ℤ◌, Bool, true, false, [], ◌∷◌, refl, sym, ap, ◌∙◌, subst, true≢false, ◌&&◌, ◌||◌, one-*ℤ, Data, Index, Var, exists, at_rey, at_rrrfy, at_rtfy, at_rty, at_ry, is_index, input_activity_ratio, output_activity_ratio, Feasible, new_capacity, variable, produces, uses, AreQuantities, IsSum, Quantity, activity_in, In, index-tidied, values-from_index}
use Rattle.model_sets.specs.Names as sets
use Rattle.row_core.specs.Subscripts as place
use Rattle.named_equations.proofs.SameValues.{◌also◌}
use Rattle.plan_quantities.proofs.CostSums.{cost-sum, emission-sum, investment-sum, operation-sum, penalty-sum, salvage-sum}
use Rattle.plan_quantities.proofs.EnergySums.{activity-sum, capacity-sum, none-sum, production-sum, trade-sum, use-sum}

or_nothing : (b c : Bool) → (b || false) ≡ c → b ≡ c
or_nothing true c h = h
or_nothing false c h = h

module _ (places : ℕ) (d : Data) (q : ℕ) (x : Var → ℤ) where
  -- the variable times its scale is the sum
  abbrev Equals : Quantity → Index → Type 0
  Equals quantity i = quantity.scale places *ℤ x (variable quantity.kind i) ≡ quantity.sum places d q x i

  -- of a variable that exists
  there : (quantity : Quantity) (i : Index) → exists d (variable quantity.kind i) ≡ true → Equals quantity i → IsSum places d q x quantity i
  there quantity i exist equal = record { existing = λ given. equal; missing = λ none. absurd (true≢false (sym exist ∙ none)) }

  there-rty : (quantity : Quantity) (i : Index) → is_index d (place.r ∷ place.t ∷ place.y ∷ []) i ≡ true → exists d (variable quantity.kind i) ≡ true
      → ((r t y : ℕ) → In d sets.region r → In d sets.technology t → In d sets.year y → Equals quantity (at_rty r t y)) → IsSum places d q x quantity i
  there-rty quantity i within exist sums =
      let are = values-from_index d (place.r ∷ place.t ∷ place.y ∷ []) i within in
      there quantity i exist
      (subst (Equals quantity) (sym (index-tidied d (place.r ∷ place.t ∷ place.y ∷ []) i are)) (sums i.region i.tech i.year are.region are.tech are.year))

  there-rrrfy : (quantity : Quantity) (i : Index) → is_index d (place.r ∷ place.rr ∷ place.f ∷ place.y ∷ []) i ≡ true → exists d (variable quantity.kind i) ≡ true
      → ((r rr f y : ℕ) → In d sets.region r → In d sets.region rr → In d sets.fuel f → In d sets.year y → Equals quantity (at_rrrfy r rr f y)) → IsSum places d q x quantity i
  there-rrrfy quantity i within exist sums =
      let are = values-from_index d (place.r ∷ place.rr ∷ place.f ∷ place.y ∷ []) i within in
      there quantity i exist
      (subst (Equals quantity) (sym (index-tidied d (place.r ∷ place.rr ∷ place.f ∷ place.y ∷ []) i are))
      (sums i.region i.other i.fuel i.year are.region are.other are.fuel are.year))

  there-rey : (quantity : Quantity) (i : Index) → is_index d (place.r ∷ place.e ∷ place.y ∷ []) i ≡ true → exists d (variable quantity.kind i) ≡ true
      → ((r e y : ℕ) → In d sets.region r → In d sets.emission e → In d sets.year y → Equals quantity (at_rey r e y)) → IsSum places d q x quantity i
  there-rey quantity i within exist sums =
      let are = values-from_index d (place.r ∷ place.e ∷ place.y ∷ []) i within in
      there quantity i exist
      (subst (Equals quantity) (sym (index-tidied d (place.r ∷ place.e ∷ place.y ∷ []) i are)) (sums i.region i.emission i.year are.region are.emission are.year))

  there-ry : (quantity : Quantity) (i : Index) → is_index d (place.r ∷ place.y ∷ []) i ≡ true → exists d (variable quantity.kind i) ≡ true
      → ((r y : ℕ) → In d sets.region r → In d sets.year y → Equals quantity (at_ry r y)) → IsSum places d q x quantity i
  there-ry quantity i within exist sums =
      let are = values-from_index d (place.r ∷ place.y ∷ []) i within in
      there quantity i exist (subst (Equals quantity) (sym (index-tidied d (place.r ∷ place.y ∷ []) i are)) (sums i.region i.year are.region are.year))

  -- of one that exists where the technology has a ratio of the fuel
  where-rtfy : (does : ℕ → ℕ → ℕ → ℕ → Bool) (quantity : Quantity) (i : Index) → is_index d (place.r ∷ place.t ∷ place.f ∷ place.y ∷ []) i ≡ true
      → exists d (variable quantity.kind i) ≡ (is_index d (place.r ∷ place.t ∷ place.f ∷ place.y ∷ []) i && (does i.region i.tech i.fuel i.year || false))
      → ((r t f y : ℕ) → In d sets.region r → In d sets.technology t → In d sets.fuel f → In d sets.year y → does r t f y ≡ true → Equals quantity (at_rtfy r t f y))
      → (does i.region i.tech i.fuel i.year ≡ false → quantity.sum places d q x i ≡ pos 0) → IsSum places d q x quantity i
  where-rtfy does quantity i within exist sums none =
      let s = place.r ∷ place.t ∷ place.f ∷ place.y ∷ [] in
      let are = values-from_index d s i within in
      let b = does i.region i.tech i.fuel i.year in
      let is : exists d (variable quantity.kind i) ≡ (b || false) = exist ∙ ap (λ w. w && (b || false)) within in
      record {
        existing = λ given.
            subst (Equals quantity) (sym (index-tidied d s i are))
            (sums i.region i.tech i.fuel i.year are.region are.tech are.fuel are.year (or_nothing b true (sym is ∙ given)));
        missing = λ given. none (or_nothing b false (sym is ∙ given));
      }

-- a variable that exists at every index
always : (b : Bool) → b ≡ true → (b && true) ≡ true
always b h = ap (λ c. c && true) h

pub quantities-hold : (places : ℕ) (d : Data) (q : ℕ) (x : Var → ℤ) → Feasible places d q x → AreQuantities places d q x
quantities-hold places d q x plan =
    (λ i within. there-rty places d q x _ i within (always (is_index d (place.r ∷ place.t ∷ place.y ∷ []) i) within) (λ r t y in_r in_t in_y. one-*ℤ (x (new_capacity r t y))))
    also (λ i within. there-rty places d q x _ i within (always (is_index d (place.r ∷ place.t ∷ place.y ∷ []) i) within) (capacity-sum places d q x plan))
    also (λ i within. there-rty places d q x _ i within (always (is_index d (place.r ∷ place.t ∷ place.y ∷ []) i) within) (activity-sum places d q x plan))
    also (λ i within. where-rtfy places d q x (produces d) _ i within refl (production-sum places d q x plan)
    (none-sum d (λ l m. activity_in d x i.region l i.tech m i.year) (λ m. output_activity_ratio d i.region i.tech i.fuel m i.year)))
    also (λ i within. where-rtfy places d q x (uses d) _ i within refl (use-sum places d q x plan)
    (none-sum d (λ l m. activity_in d x i.region l i.tech m i.year) (λ m. input_activity_ratio d i.region i.tech i.fuel m i.year)))
    also (λ i within. there-rrrfy places d q x _ i within (always (is_index d (place.r ∷ place.rr ∷ place.f ∷ place.y ∷ []) i) within) (trade-sum places d q x plan))
    also (λ i within. there-rey places d q x _ i within (always (is_index d (place.r ∷ place.e ∷ place.y ∷ []) i) within) (emission-sum places d q x plan))
    also (λ i within. there-rty places d q x _ i within (always (is_index d (place.r ∷ place.t ∷ place.y ∷ []) i) within) (investment-sum places d q x plan))
    also (λ i within. there-rty places d q x _ i within (always (is_index d (place.r ∷ place.t ∷ place.y ∷ []) i) within) (operation-sum places d q x plan))
    also (λ i within. there-rty places d q x _ i within (always (is_index d (place.r ∷ place.t ∷ place.y ∷ []) i) within) (penalty-sum places d q x plan))
    also (λ i within. there-rty places d q x _ i within (always (is_index d (place.r ∷ place.t ∷ place.y ∷ []) i) within) (salvage-sum places d q x plan))
    also (λ i within. there-ry places d q x _ i within (always (is_index d (place.r ∷ place.y ∷ []) i) within) (cost-sum places d q x plan))
    also tt
