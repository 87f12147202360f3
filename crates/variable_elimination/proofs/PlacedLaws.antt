-- A variable is put at its place among ascending ones.
use Rattle.variable_elimination.proofs.Common.{◌≡◌, ℕ, zero, suc, ◌<◌, ◌≤◌, true, false, List, [], ◌∷◌, length, get_or, refl, sym, ap, ◌∙◌, subst, arith, both_true, insert, IsNonDecreasingBy, IsSortedBy, searchable_from_sorted, add-one, is_lt, ordering_index, ordering_reverse, Ordering, Var, TOTAL_DISCOUNTED_COST, before_first, ascends, var_cmp, both_passed, test-from_Less, ascends-first, var_cmp_total, var_cmp_exact, placed, AllAreCosts}
use Rattle.std.specs.declared.cmp.Ordering.TheVariants.{Less, Equal as Alike, Greater}

abbrev chosen : Ordering → Var → Var → List Var → List Var → List Var
chosen order v w ws rest =
    elim order [
      | Less ↦ v ∷ w ∷ ws
      | Alike ↦ w ∷ ws
      | Greater ↦ w ∷ rest
    ]

back : (v w : Var) (o : Ordering) → var_cmp w v ≡ o → var_cmp v w ≡ ordering_reverse o
back v w o h = var_cmp_total.antisymm v w ∙ ap ordering_reverse h

placed-before : (x v : Var) (ws : List Var) → before_first var_cmp x ws ≡ true → is_lt (var_cmp x v) ≡ true → before_first var_cmp x (placed v ws) ≡ true
placed-before x v [] h k = k
placed-before x v (w ∷ ws) h k = cases (var_cmp v w)
  where
    cases : (o : Ordering) → before_first var_cmp x (chosen o v w ws (placed v ws)) ≡ true
    cases Less = k
    cases Alike = h
    cases Greater = h

pub placed-ascends : (v : Var) (ws : List Var) → ascends var_cmp ws ≡ true → ascends var_cmp (placed v ws) ≡ true
placed-ascends v [] h = refl
placed-ascends v (w ∷ ws) h = cases (var_cmp v w) refl (placed-ascends v ws (both_passed (before_first var_cmp w ws) (ascends var_cmp ws) h).1)
  where
    cases : (o : Ordering) → var_cmp v w ≡ o → ascends var_cmp (placed v ws) ≡ true → ascends var_cmp (chosen o v w ws (placed v ws)) ≡ true
    cases Less is rest = both_true (test-from_Less (var_cmp v w) is) h
    cases Alike is rest = h
    cases Greater is rest = both_true (placed-before w v ws (both_passed (before_first var_cmp w ws) (ascends var_cmp ws) h).0 (test-from_Less (var_cmp w v) (back w v Greater is))) rest

pub placed-costs : (v : Var) (ws : List Var) → v.kind ≡ TOTAL_DISCOUNTED_COST → AllAreCosts ws → AllAreCosts (placed v ws)
placed-costs v [] k h = (k, tt)
placed-costs v (w ∷ ws) k h = cases (var_cmp v w) (placed-costs v ws k h.1)
  where
    cases : (o : Ordering) → AllAreCosts (placed v ws) → AllAreCosts (chosen o v w ws (placed v ws))
    cases Less rest = (k, h)
    cases Alike rest = h
    cases Greater rest = (h.0, rest)

-- where all before a position are less and the others greater, the variable goes there
pub placed-at : (v : Var) (ws : List Var) (at : ℕ) (d : Var) → at ≤ length ws → ((i : ℕ) → i < at → var_cmp (get_or ws i d) v ≡ Less) → ((i : ℕ) → at ≤ i → i < length ws → var_cmp (get_or ws i d) v ≡ Greater) → insert ws at v ≡ placed v ws
placed-at v [] zero d h below above = refl
placed-at v [] (suc at) d h below above = absurd (omega arith)
placed-at v (w ∷ ws) zero d h below above = sym (ap (λ o. chosen o v w ws (placed v ws)) (back v w Greater (above 0 (omega arith) (omega arith))))
placed-at v (w ∷ ws) (suc at) d h below above =
    ap {B = List Var} (λ xs. w ∷ xs) (placed-at v ws at d (omega arith) (λ i k. below (suc i) (omega arith)) (λ i k l. above (suc i) (omega arith) (omega arith)))
    ∙ sym (ap (λ o. chosen o v w ws (placed v ws)) (back v w Less (below 0 (omega arith))))

-- one that is there stays
pub placed-there : (v : Var) (ws : List Var) (at : ℕ) (d : Var) → ascends var_cmp ws ≡ true → at < length ws → var_cmp (get_or ws at d) v ≡ Alike → placed v ws ≡ ws
placed-there v [] at d h k found = absurd (omega arith)
placed-there v (w ∷ ws) zero d h k found = ap (λ o. chosen o v w ws (placed v ws)) (back v w Alike found)
placed-there v (w ∷ ws) (suc at) d h k found =
    let less : var_cmp w v ≡ Less = subst (λ u. var_cmp w u ≡ Less) (var_cmp_exact (get_or ws at d) v found) (ascends-first var_cmp var_cmp_total w ws h at d (omega arith)) in
    ap (λ o. chosen o v w ws (placed v ws)) (back v w Less less)
    ∙ ap {B = List Var} (λ xs. w ∷ xs) (placed-there v ws at d (both_passed (before_first var_cmp w ws) (ascends var_cmp ws) h).1 (omega arith) found)

-- the list is sorted, as a search asks
pub ascends-searchable : (ws : List Var) (v : Var) → ascends var_cmp ws ≡ true → IsNonDecreasingBy (λ w. ordering_index (var_cmp w v)) ws
ascends-searchable ws v h = searchable_from_sorted var_cmp_total (λ w. w) ws v (sorted ws h)
  where
    next_not_less : (us : List Var) → ascends var_cmp us ≡ true → (i : ℕ) (d : Var) → suc i < length us → is_lt (var_cmp (get_or us (suc i) d) (get_or us i d)) ≡ false
    next_not_less [] h i d k = absurd (omega arith)
    next_not_less (u ∷ us) h zero d k = ap is_lt (back (get_or us 0 d) u Less (ascends-first var_cmp var_cmp_total u us h 0 d (omega arith)))
    next_not_less (u ∷ us) h (suc i) d k = next_not_less us (both_passed (before_first var_cmp u us) (ascends var_cmp us) h).1 i d (omega arith)

    sorted : (us : List Var) → ascends var_cmp us ≡ true → IsSortedBy (λ a b. is_lt (var_cmp a b)) us
    sorted us h i d low k = rw (add-one i) (next_not_less us h i d (omega arith))
