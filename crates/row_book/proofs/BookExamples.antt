-- What a book keeps: examples, and near misses.
use Rattle.row_book.proofs.Common.{◌≡◌, ◌≢◌, pos, negsuc, Bool, true, false, inl, inr, [], ◌∷◌, None, Some, refl, sym, subst, ◌∙◌, arith, is_eq, ◌≤ℤ◌, Contains, if◌then◌else◌, ints, Row, Var, variables_of, var_cmp, number_at, var_cmp_exact, variable_of, capital_investment, new_capacity, production, rate_of_production, trade, Contains-from_Has, Has, Has-from_Contains, entry_variables, Defines, IsBook, IsDefinedAt, IsBounded, IsMadeOfParts}
use Rattle.row_book.proofs.SignLaws.{alike}

-- ---- the signs of definitions

abbrev made : Var
made = production 0 0 0 0

abbrev part : Var
part = rate_of_production 0 0 0 0

-- neither of the two is free; a trade is, and so is a cost
bounded : IsBounded part
bounded = refl

trade_is_free : IsBounded (trade 0 0 0 0 0) → ⊥
trade_is_free bounded = cc

cost_is_free : IsBounded (capital_investment 0 0 0) → ⊥
cost_is_free bounded = cc

part_number : (w : Var) → w ≢ made → number_at ((made, pos 4) ∷ (part, negsuc 0) ∷ []) w ≤ℤ pos 0
part_number w other = by_tests (is_eq (var_cmp made w)) (is_eq (var_cmp part w)) refl
  where
    by_tests : (a b : Bool) → is_eq (var_cmp made w) ≡ a → (if a then pos 4 else if b then negsuc 0 else pos 0) ≤ℤ pos 0
    by_tests true b is = absurd (other (sym (var_cmp_exact made w (alike (var_cmp made w) is))))
    by_tests false true is = omega (arith, ints)
    by_tests false false is = omega (arith, ints)

each_bounded : (w : Var) → Has (made ∷ part ∷ []) w → IsBounded w
each_bounded w (inl same) = subst IsBounded same refl
each_bounded w (inr (inl same)) = subst IsBounded same refl
each_bounded w (inr (inr none)) = absurd none

-- 4 times what is made, less a part, is 3
made_of_parts : (row : Row) → row.entries.items ≡ (made, pos 4) ∷ (part, negsuc 0) ∷ [] → row.rhs ≡ pos 3 → IsMadeOfParts row made
made_of_parts row entries right_side = record {
  bounded = λ w entry. each_bounded w (Has-from_Contains (made ∷ part ∷ []) w (subst (λ es. Contains (variables_of es) w) entries entry));
  others = λ w other. subst (λ es. number_at es w ≤ℤ pos 0) (sym entries) (part_number w other);
  right_side = subst (λ z. pos 0 ≤ℤ z) (sym right_side) (omega (arith, ints));
}

-- not so where the part is added
part_added : (row : Row) → row.entries.items ≡ (made, pos 4) ∷ (part, pos 1) ∷ [] → IsMadeOfParts row made → ⊥
part_added row entries is =
    let differs : part ≢ made = λ same. cc in
    let above : pos 1 ≤ℤ pos 0 = subst (λ es. number_at es part ≤ℤ pos 0) entries (is.others part differs) in
    omega (arith, ints, above)

-- nor where a free variable is taken away
trade_taken : (row : Row) → row.entries.items ≡ (trade 0 0 0 0 0, negsuc 0) ∷ (made, pos 4) ∷ [] → IsMadeOfParts row made → ⊥
trade_taken row entries is =
    trade_is_free
    (is.bounded (trade 0 0 0 0 0)
    (subst (λ es. Contains (variables_of es) (trade 0 0 0 0 0)) (sym entries) (Contains-from_Has (trade 0 0 0 0 0 ∷ made ∷ []) (trade 0 0 0 0 0) (inl refl))))

-- nor where the right side is below 0
right_side_below : (row : Row) → row.rhs ≡ negsuc 0 → IsMadeOfParts row made → ⊥
right_side_below row right_side is =
    let above : pos 0 ≤ℤ negsuc 0 = subst (λ z. pos 0 ≤ℤ z) right_side is.right_side in
    omega (arith, ints, above)

-- ---- the whole

none_there : (v : Var) → Contains (entry_variables []) v → ⊥
none_there v (k, inside, same) = omega (arith, inside)

-- a book with no row has no variable
with_a_variable : IsBook [] (new_capacity 0 0 0 ∷ []) → ⊥
with_a_variable is = none_there (new_capacity 0 0 0) ((is.variables.each (new_capacity 0 0 0)).0 (Contains-from_Has (new_capacity 0 0 0 ∷ []) (new_capacity 0 0 0) (inl refl)))

with_none : IsBook [] []
with_none = record {
  ascending = refl;
  variables = record { ascending = refl; each = λ v. (λ there. there, λ there. there) };
  definitions = record {
    solvable = λ i row v at defines. absurd (cc at);
    backward = λ i j row later v w less at bt defines defines_later entry. absurd (cc at);
    once = λ i j row other v at bt defines defines_too. absurd (cc at);
    whole = λ v entry. absurd (none_there v entry);
    repeated = λ i row at equal none. absurd (cc at);
  };
  signs = λ i row v at defines bounded. absurd (cc at);
}

-- a row that stands twice doesn't define its variable alone
not_alone : (row : Row) (v : Var) → Defines row v → IsDefinedAt (row ∷ row ∷ []) 0 v → ⊥
not_alone row v defines is = let same : 0 ≡ 1 = is.once 1 row refl defines in omega (arith, same)

-- no row stands at the position
nothing_there : (v : Var) → IsDefinedAt [] 0 v → ⊥
nothing_there v is = absurd (cc is.there.1)

-- the row that stands there defines nothing
defines_nothing : (row : Row) (v : Var) → variable_of row.name ≡ None → IsDefinedAt (row ∷ []) 0 v → ⊥
defines_nothing row v none is = let both : None ≡ Some v = sym none ∙ is.defines row refl in absurd (cc both)
