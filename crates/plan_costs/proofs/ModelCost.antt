-- The cost of a plan, the sum of TotalDiscountedCost over the regions and the years, is the sum over the variables that exist of the number that each
-- has in the cost.
use Rattle.std.proofs.Common.{◌≡◌, ℕ, ℤ, pos, ◌+ℤ◌, ◌*ℤ◌, Bool, true, false, List, [], ◌∷◌, ◌++◌, refl, ap, ap₂, sym, ◌∙◌, map, filter, if◌then◌else◌, not, ◌==◌}
use Rattle.std.specs.List.{flat_map, list_all, range_with_len}
use Rattle.std.proofs.lemmas.List.{append_assoc}
use Rattle.exact_num.proofs.Ring.{ring}
use Rattle.model_sets.specs.Data.{Data}
use Rattle.row_core.specs.declared.Index.{Index}
use Rattle.row_core.specs.declared.Var.{Var}
use Rattle.row_core.specs.declared.kind_numbers.TheConstants.{TOTAL_DISCOUNTED_COST}
use Rattle.row_core.proofs.AscendingLaws.{both_passed}
use Rattle.certificate_checker.specs.Costs.{cost_of, model_cost}
use Rattle.certificate_checker.specs.Sums.{sum_over}
use Rattle.named_equations.specs.Existence.{all_variables, variables_of_kind, kind_numbers, exists_at, subscripts_of_kind}
use Rattle.named_equations.specs.Indices.{index}
use Rattle.named_equations.specs.Instances.{indices}
use Rattle.named_equations.specs.Notation as named
use Rattle.named_equations.specs.Plans.{cost}
use Rattle.named_equations.specs.Positions.{regions, all_years}
use Rattle.named_equations.specs.Variables.{total_discounted_cost, variable}
use Rattle.named_equations.proofs.InstanceOrder.{from_rr, from_l, from_t, from_f, from_e, from_m, from_y}

-- ---- sums

regroup : (a b c : ℤ) → a +ℤ (b +ℤ c) ≡ (a +ℤ b) +ℤ c
regroup a b c = simp ring

-- what a variable adds to the cost
abbrev part : (Var → ℤ) → Var → ℤ
part x v = model_cost v *ℤ x v

-- the sum over some variables
abbrev parts : (Var → ℤ) → List Var → ℤ
parts x vs = sum_over vs (part x)

parts-append : (x : Var → ℤ) (vs ws : List Var) → parts x (vs ++ ws) ≡ parts x vs +ℤ parts x ws
parts-append x [] ws = simp ring
parts-append x (v ∷ vs) ws = ap (λ z. part x v +ℤ z) (parts-append x vs ws) ∙ regroup (part x v) (parts x vs) (parts x ws)

-- over one kind's variables at some indices
abbrev at_indices : (Var → ℤ) → ℕ → List Index → ℤ
at_indices x kind is = parts x (map (variable kind) is)

at-append : (x : Var → ℤ) (kind : ℕ) (is js : List Index) → at_indices x kind (is ++ js) ≡ at_indices x kind is +ℤ at_indices x kind js
at-append x kind [] js = simp ring
at-append x kind (i ∷ is) js = ap (λ z. part x (variable kind i) +ℤ z) (at-append x kind is js) ∙ regroup (part x (variable kind i)) (at_indices x kind is) (at_indices x kind js)

at-each : (x : Var → ℤ) (kind : ℕ) (g : ℕ → List Index) (ns : List ℕ) → at_indices x kind (flat_map g ns) ≡ named.sum_over ns (λ n. at_indices x kind (g n))
at-each x kind g [] = refl
at-each x kind g (n ∷ ns) = at-append x kind (g n) (flat_map g ns) ∙ ap (λ z. at_indices x kind (g n) +ℤ z) (at-each x kind g ns)

at-one : (x : Var → ℤ) (kind : ℕ) (g : ℕ → List Index) → at_indices x kind (flat_map g (0 ∷ [])) ≡ at_indices x kind (g 0)
at-one x kind g = at-append x kind (g 0) [] ∙ simp ring

same-sums : (ns : List ℕ) (f g : ℕ → ℤ) → ((n : ℕ) → f n ≡ g n) → named.sum_over ns f ≡ named.sum_over ns g
same-sums [] f g same = refl
same-sums (n ∷ ns) f g same = ap₂ (λ a b. a +ℤ b) (same n) (same-sums ns f g same)

-- ---- TotalDiscountedCost

-- it exists in each region and year
everywhere : (d : Data) (is : List Index) → filter (exists_at d TOTAL_DISCOUNTED_COST) is ≡ is
everywhere d [] = refl
everywhere d (i ∷ is) = ap (λ js. i ∷ js) (everywhere d is)

-- its subscripts
abbrev subscripts : List ℕ
subscripts = subscripts_of_kind TOTAL_DISCOUNTED_COST

-- the sum over it in one region: the other six subscripts between region and year are 0
its-sum_in : (d : Data) (x : Var → ℤ) (r : ℕ) → at_indices x TOTAL_DISCOUNTED_COST (from_rr d subscripts r) ≡ named.sum_over (all_years d) (λ y. x (total_discounted_cost r y))
its-sum_in d x r =
    at-one x TOTAL_DISCOUNTED_COST (from_l d subscripts r)
    ∙ at-one x TOTAL_DISCOUNTED_COST (from_t d subscripts r 0)
    ∙ at-one x TOTAL_DISCOUNTED_COST (from_f d subscripts r 0 0)
    ∙ at-one x TOTAL_DISCOUNTED_COST (from_e d subscripts r 0 0 0)
    ∙ at-one x TOTAL_DISCOUNTED_COST (from_m d subscripts r 0 0 0 0)
    ∙ at-one x TOTAL_DISCOUNTED_COST (from_y d subscripts r 0 0 0 0 0)
    ∙ at-each x TOTAL_DISCOUNTED_COST (λ y. index r 0 0 0 0 0 0 y ∷ []) (all_years d)
    ∙ same-sums (all_years d) (λ y. at_indices x TOTAL_DISCOUNTED_COST (index r 0 0 0 0 0 0 y ∷ [])) (λ y. x (total_discounted_cost r y)) (λ y. itself (x (total_discounted_cost r y)))
  where
    itself : (z : ℤ) → (pos 1 *ℤ z) +ℤ pos 0 ≡ z
    itself z = simp ring

-- the sum over it in all regions
its-sum : (d : Data) (x : Var → ℤ) → parts x (variables_of_kind d TOTAL_DISCOUNTED_COST) ≡ cost d x
its-sum d x =
    ap (at_indices x TOTAL_DISCOUNTED_COST) (everywhere d (indices d subscripts))
    ∙ at-each x TOTAL_DISCOUNTED_COST (from_rr d subscripts) (regions d)
    ∙ same-sums (regions d) (λ r. at_indices x TOTAL_DISCOUNTED_COST (from_rr d subscripts r)) (λ r. named.sum_over (all_years d) (λ y. x (total_discounted_cost r y))) (its-sum_in d x)

-- the sum over another kind is 0
nothing-at : (x : Var → ℤ) (kind : ℕ) (is : List Index) → (kind == TOTAL_DISCOUNTED_COST) ≡ false → at_indices x kind is ≡ pos 0
nothing-at x kind [] other = refl
nothing-at x kind (i ∷ is) other =
    ap₂ (λ (b : Bool) z. ((if b then pos 1 else pos 0) *ℤ x (variable kind i)) +ℤ z) other (nothing-at x kind is other) ∙ simp ring

abbrev all_others : List ℕ → Bool
all_others ns = list_all (λ n. not (n == TOTAL_DISCOUNTED_COST)) ns

nothing-of : (d : Data) (x : Var → ℤ) (ns : List ℕ) → all_others ns ≡ true → parts x (flat_map (variables_of_kind d) ns) ≡ pos 0
nothing-of d x [] others = refl
nothing-of d x (n ∷ ns) others =
    let two = both_passed (not (n == TOTAL_DISCOUNTED_COST)) (all_others ns) others in
    parts-append x (variables_of_kind d n) (flat_map (variables_of_kind d) ns)
    ∙ ap₂ (λ a b. a +ℤ b) (nothing-at x n (filter (exists_at d n) (indices d (subscripts_of_kind n))) (opposite (n == TOTAL_DISCOUNTED_COST) two.0)) (nothing-of d x ns two.1)
  where
    opposite : (b : Bool) → not b ≡ true → b ≡ false
    opposite true h = absurd (cc h)
    opposite false h = refl

-- the kinds before it, and those after it
abbrev before : List ℕ
before = range_with_len 1 36

abbrev after : List ℕ
after = range_with_len 38 11

kinds-are : kind_numbers ≡ before ++ TOTAL_DISCOUNTED_COST ∷ after
kinds-are = refl

flat-append : {A : Type 0} (g : ℕ → List A) (ns ms : List ℕ) → flat_map g (ns ++ ms) ≡ flat_map g ns ++ flat_map g ms
flat-append g [] ms = refl
flat-append g (n ∷ ns) ms = ap (λ xs. g n ++ xs) (flat-append g ns ms) ∙ sym (append_assoc (g n) (flat_map g ns) (flat_map g ms))

-- the cost of a plan, over the variables that exist
pub cost-of_all : (d : Data) (x : Var → ℤ) → cost_of model_cost (all_variables d) x ≡ cost d x
cost-of_all d x =
    let g = variables_of_kind d in
    ap (λ ns. parts x (flat_map g ns)) kinds-are
    ∙ ap (parts x) (flat-append g before (TOTAL_DISCOUNTED_COST ∷ after))
    ∙ parts-append x (flat_map g before) (flat_map g (TOTAL_DISCOUNTED_COST ∷ after))
    ∙ ap₂ (λ a b. a +ℤ b) (nothing-of d x before refl)
    (parts-append x (g TOTAL_DISCOUNTED_COST) (flat_map g after) ∙ ap₂ (λ a b. a +ℤ b) (its-sum d x) (nothing-of d x after refl))
    ∙ alone (cost d x)
  where
    alone : (z : ℤ) → pos 0 +ℤ (z +ℤ pos 0) ≡ z
    alone z = simp ring
