-- What holds of every entry of the table of parameters.
use Rattle.model_sets.proofs.Common.{◌≡◌, ℕ, ◌-◌, ◌≤◌, Bool, true, false, ◌&&◌, length, get_or, refl, arith, All, list_all, leb-true, IsSet, set_count, IsParam, Param, no_param, param_at, params, subscript_sets}
use Rattle.std.specs.Prelude.{nat_le}
use Rattle.std.proofs.lemmas.List.Sums.{AllPass-from_list_all}

-- whether k is the number of a set
is_set : ℕ → Bool
is_set k = nat_le 1 k && nat_le k set_count

and-left : (a b : Bool) → (a && b) ≡ true → a ≡ true
and-left true b e = refl
and-left false b e = absurd cc

and-right : (a b : Bool) → (a && b) ≡ true → b ≡ true
and-right true b e = e
and-right false b e = absurd cc

IsSet-from_test : (k : ℕ) → is_set k ≡ true → IsSet k
unfolding is_set
IsSet-from_test k passes = (leb-true 1 k (and-left (nat_le 1 k) (nat_le k set_count) passes), leb-true k set_count (and-right (nat_le 1 k) (nat_le k set_count) passes))

-- what the test finds at each entry of the table holds of each parameter
pub passes_at : (test : Param → Bool) → list_all test params ≡ true → (n : ℕ) → IsParam n → test (param_at n) ≡ true
passes_at test all n is = let low = is.0 in let high = is.1 in AllPass-from_list_all test params all (n - 1) no_param (omega arith)

-- each subscript runs over a set
pub subscripts_are_sets : (n : ℕ) → IsParam n → All IsSet (subscript_sets n)
unfolding is_set
subscripts_are_sets n is i d below = IsSet-from_test (get_or (subscript_sets n) i d) (AllPass-from_list_all is_set (subscript_sets n) (passes_at (λ p. list_all is_set p.subscripts) refl n is) i d below)

-- and there are five at most
pub subscripts-most : (n : ℕ) → IsParam n → length (subscript_sets n) ≤ 5
subscripts-most n is = leb-true (length (subscript_sets n)) 5 (passes_at (λ p. nat_le (length p.subscripts) 5) refl n is)
