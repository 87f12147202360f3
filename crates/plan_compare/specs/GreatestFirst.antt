-- Elements by size, the greatest first, and those of one size in the order in which they stood.
use Rattle.std.specs.Prelude.{ℕ, ◌≤◌, nat_eq, nat_le, List, [], ◌∷◌, filter, ⊤, if◌then◌else◌}
use Rattle.std.specs.List.{AllByRecursion}
use Rattle.plan_compare.specs.declared.change.Change.{Change}
use Rattle.plan_compare.specs.Amounts.{difference, size}

-- the element before the first that isn't greater
abbrev pub inserted : {X : Type 0} → (X → ℕ) → X → List X → List X
inserted size x [] = x ∷ []
inserted size x (y ∷ ys) = if nat_le (size y) (size x) then x ∷ y ∷ ys else y ∷ inserted size x ys

-- all of them in this order
abbrev pub greatest_first : {X : Type 0} → (X → ℕ) → List X → List X
greatest_first size [] = []
greatest_first size (x ∷ xs) = inserted size x (greatest_first size xs)

-- no element is greater than one before it
abbrev pub Falls : {X : Type 0} → (X → ℕ) → List X → Type 0
Falls size [] = ⊤
Falls size (x ∷ xs) = AllByRecursion (λ y. size y ≤ size x) xs × Falls size xs

-- the elements of one size, in their order
abbrev pub of_size : {X : Type 0} → (X → ℕ) → ℕ → List X → List X
of_size size n xs = filter (λ x. nat_eq (size x) n) xs

-- the size of a change: that of its difference
abbrev pub size_of_change : Change → ℕ
size_of_change change = size (difference change.one change.two)
