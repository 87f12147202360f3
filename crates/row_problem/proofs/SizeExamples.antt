-- The counts, computed.
use Rattle.row_problem.proofs.Common.{◌≡◌, ℕ, [], ◌∷◌, refl, ap, ap₂, ◌∙◌, ◌+◌, cond, Row, Equal, Most, Var, RATE_OF_ACTIVITY, NEW_CAPACITY, TRADE, TOTAL_DISCOUNTED_COST, column_count, columns_at, inequality_count, is_unequal}
use Rattle.row_core.specs.declared.Sense.TheVariants.{Least}

-- the variable of this kind between two regions; the other subscripts are 0
abbrev between : ℕ → ℕ → ℕ → Var
between kind r rr = record { kind = kind; index = record { region = r; other = rr; slice = 0; tech = 0; fuel = 0; emission = 0; mode = 0; year = 0 } }

abbrev activity : Var
activity = between RATE_OF_ACTIVITY 0 0

abbrev new_capacity : Var
new_capacity = between NEW_CAPACITY 0 0

abbrev cost : Var
cost = between TOTAL_DISCOUNTED_COST 0 0

-- the Trade of two regions in their order has two columns
one_way : columns_at (between TRADE 0 1) ≡ 2
one_way = refl

-- the other way round it is defined, and within a region it is 0
other_way : columns_at (between TRADE 1 0) ≡ 0
other_way = refl

at_home : columns_at (between TRADE 1 1) ≡ 0
at_home = refl

-- an activity, a capacity and the trade of two regions have four columns, and what is defined adds none
all_columns : column_count (activity ∷ new_capacity ∷ between TRADE 0 1 ∷ between TRADE 1 0 ∷ cost ∷ []) ≡ 4
all_columns = refl

-- of a row of each sense two are inequalities
two_of_three : (a b c : Row) → a.sense ≡ Least → b.sense ≡ Equal → c.sense ≡ Most → inequality_count (a ∷ b ∷ c ∷ []) ≡ 2
two_of_three a b c l e m =
    ap (λ s. ((0 + cond (is_unequal s) 1 0) + cond (is_unequal b.sense) 1 0) + cond (is_unequal c.sense) 1 0) l
    ∙ ap₂ (λ s t. (1 + cond (is_unequal s) 1 0) + cond (is_unequal t) 1 0) e m
