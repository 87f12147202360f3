-- Equations that make a variable of parts that are at least 0, once for each shape that they share.
use Rattle.row_book.proofs.Common.{◌≡◌, ℕ, true, false, pos, List, [], ◌∷◌, None, Some, ap, sym, ◌∙◌, AllByRecursion, Data, Index, Var, Amount, Negative, Whole, each, less, kind_is_free, name_at, subscripts_of, variable_of, is_made_of, is_times, products_away, sum_away, AreComplete, terms_at, IsBounded}
use Rattle.row_book.proofs.Lists.{AllByRecursion-map, AllByRecursion-weaker, all-from}
use Rattle.row_book.proofs.SignLaws.{IsAtLeastZero, IsPart, MakesOfParts, at_least_zero-nothing, less-part, own-part, product-part}
use Rattle.row_book.proofs.Subscripts.{AreValues}
use Rattle.row_book.proofs.TermVariables.{same_some}

-- what the equation of this number makes at the index, where that isn't free
abbrev pub SignsAt : ℕ → Data → Index → ℕ → Type 0
SignsAt places d i n = AreComplete d → AreValues d (subscripts_of n) i → (v : Var) → variable_of (name_at n i) ≡ Some v → IsBounded v → MakesOfParts v (terms_at places d (name_at n i))

-- ---- parts

-- one term for each of these positions
pub each-parts : (v : Var) (term : ℕ → Var × Amount) (Q : ℕ → Type 0) (is : List ℕ) → ((j : ℕ) → Q j → IsPart v (term j)) → AllByRecursion Q is → AllByRecursion (IsPart v) (each is term)
each-parts v term Q is of_each of_is = AllByRecursion-map (IsPart v) term is (AllByRecursion-weaker Q (λ j. IsPart v (term j)) of_each is of_is)

pub sum-parts : (v : Var) (is : List ℕ) (w : ℕ → Var) → ((j : ℕ) → IsBounded (w j)) → AllByRecursion (IsPart v) (sum_away is w)
sum-parts v is w bounded = AllByRecursion-map (IsPart v) (λ j. less (w j)) is (all-from (λ j. IsPart v (less (w j))) is (λ j has. less-part v (w j) (bounded j)))

pub products-parts : (v : Var) (Q : ℕ → Type 0) (is : List ℕ) (w : ℕ → Var) (a : ℕ → Amount) → ((j : ℕ) → IsBounded (w j)) → ((j : ℕ) → Q j → IsAtLeastZero (a j)) → AllByRecursion Q is
    → AllByRecursion (IsPart v) (products_away is w a)
products-parts v Q is w a bounded least of_is = each-parts v (λ j. (w j, Negative (a j))) Q is (λ j h. product-part v (w j) (a j) (bounded j) (least j h)) of_is

-- ---- shapes

-- a variable is made of these
pub made-signs : (v own : Var) (others : List (Var × Amount)) → IsBounded own → Some own ≡ Some v → AllByRecursion (IsPart v) others → MakesOfParts v (is_made_of own others)
made-signs v own others bounded defines parts =
    record { parts = (own-part v own (Whole (pos 1)) bounded (sym (same_some own v defines)), parts); right = at_least_zero-nothing }

-- a variable is the sum of others
pub sum-signs : (v own : Var) (is : List ℕ) (w : ℕ → Var) → IsBounded own → Some own ≡ Some v → ((j : ℕ) → IsBounded (w j)) → MakesOfParts v (is_made_of own (sum_away is w))
sum-signs v own is w bounded defines others = made-signs v own (sum_away is w) bounded defines (sum-parts v is w others)

-- a variable is another times a number
pub times-signs : (v own w : Var) (a : Amount) → IsBounded own → Some own ≡ Some v → IsBounded w → IsAtLeastZero a → MakesOfParts v (is_times own w a)
times-signs v own w a bounded defines other least = made-signs v own ((w, Negative a) ∷ []) bounded defines (product-part v w a other least, tt)

-- a variable is the sum of others times numbers
pub products-signs : (v own : Var) (Q : ℕ → Type 0) (is : List ℕ) (w : ℕ → Var) (a : ℕ → Amount) → IsBounded own → Some own ≡ Some v → ((j : ℕ) → IsBounded (w j))
    → ((j : ℕ) → Q j → IsAtLeastZero (a j)) → AllByRecursion Q is → MakesOfParts v (is_made_of own (products_away is w a))
products-signs v own Q is w a bounded defines others least of_is = made-signs v own (products_away is w a) bounded defines (products-parts v Q is w a others least of_is)

-- ---- the other equations

-- a variable that is free isn't one that isn't
pub never_bounded : (own v : Var) → kind_is_free own.kind ≡ true → own ≡ v → IsBounded v → ⊥
never_bounded own v free same bounded =
    let not_free : kind_is_free own.kind ≡ false = ap (λ (w : Var). kind_is_free w.kind) same ∙ bounded in
    cc

-- an equation that defines nothing defines no variable
pub never_defined : (v : Var) → None ≡ Some v → ⊥
never_defined v defines = cc
