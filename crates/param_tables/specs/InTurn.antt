-- Refusals of the items of a list, looked for item by item.
use Rattle.std.specs.Prelude.{List, [], ◌∷◌, take, Option, None, Some}
use Rattle.std.specs.List.{enumerate_from, filter_map}

-- the first of the list
abbrev pub first_of : {X : Type 0} → List X → Option X
first_of [] = None
first_of (x ∷ xs) = Some x

-- the refusals of the items, where an item may be refused because of those before it
abbrev pub in_turn : {X R : Type 0} → (List X → X → Option R) → List X → List R
in_turn refusal_after xs = filter_map (λ (i, x). refusal_after (take i xs) x) (enumerate_from 0 xs)
