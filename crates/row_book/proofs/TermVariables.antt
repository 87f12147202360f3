-- The variables of an equation's terms exist, and those beside its own are defined by earlier equations, if at all: what that says, equation by equation.
use Rattle.row_book.proofs.Common.{◌≡◌, ℕ, Bool, true, false, ◌||◌, ◌⊎◌, inl, inr, List, nat_eq, nat_lt, Some, ap, sym, ◌∙◌, AllByRecursion, list_all, list_any, Data, Index, RowName, Var, Amount, each, definers, exists, exists_at, kind_numbers, subscripts_of_kind, name_at, stands_at, subscripts_of, variable_of, trade, terms_at}
use Rattle.row_book.proofs.Lists.{AllByRecursion-map, AllByRecursion-weaker}
use Rattle.row_book.proofs.Subscripts.{AreValues, exists-from_values}

-- the equations that define variables of this kind are all before the one of this number
abbrev pub is_earlier : ℕ → ℕ → Bool
is_earlier kind eq = list_all (λ n. nat_lt n eq) (definers kind)

-- the variable that an exchange of trade has beside the one that it may define
abbrev pub IsOtherTrade : RowName → Var → Type 0
IsOtherTrade name v = (name.eq ≡ 16) × (v ≡ trade name.index.region name.index.other name.index.slice name.index.fuel name.index.year)

-- where the instance defines a variable, v is that one, or is defined by earlier equations alone, or is the other one of an exchange
abbrev pub IsInOrder : RowName → Var → Type 0
IsInOrder name v = (w : Var) → variable_of name ≡ Some w → (w ≡ v) ⊎ ((is_earlier v.kind name.eq ≡ true) ⊎ IsOtherTrade name v)

-- what a variable of the instance's terms is
pub record IsTermOf (d : Data) (name : RowName) (v : Var) : Type 0 where
  pub there : exists d v ≡ true
  pub order : IsInOrder name v

-- so is each variable of its terms
abbrev pub HasTerms : ℕ → Data → RowName → Type 0
HasTerms places d name = AllByRecursion (λ (term : Var × Amount). IsTermOf d name term.0) (terms_at places d name).terms

pub same_some : (v w : Var) → Some v ≡ Some w → w ≡ v
same_some v w e = cc

-- the variable that the instance defines
pub own : (d : Data) (name : RowName) (v : Var) → AreValues d (subscripts_of_kind v.kind) v.index → exists_at d v.kind v.index ≡ true
    → list_any (nat_eq v.kind) kind_numbers ≡ true → variable_of name ≡ Some v → IsTermOf d name v
own d name v are stands known defines =
    record { there = exists-from_values d v known are stands; order = λ w h. inl (same_some v w (sym defines ∙ h)) }

-- one that earlier equations define
pub earlier : (d : Data) (name : RowName) (v : Var) → AreValues d (subscripts_of_kind v.kind) v.index → exists_at d v.kind v.index ≡ true
    → list_any (nat_eq v.kind) kind_numbers ≡ true → is_earlier v.kind name.eq ≡ true → IsTermOf d name v
earlier d name v are stands known before =
    record { there = exists-from_values d v known are stands; order = λ w h. inr (inl before) }

-- something stands where its one definer does
pub stands_too : (b : Bool) → b ≡ true → (b || false) ≡ true
stands_too b h = ap (λ a. a || false) h

-- a term for each of these positions
pub each-terms : (P : Var → Type 0) (Q : ℕ → Type 0) (term : ℕ → Var × Amount) (is : List ℕ) → ((j : ℕ) → Q j → P (term j).0) → AllByRecursion Q is
    → AllByRecursion (λ (t : Var × Amount). P t.0) (each is term)
each-terms P Q term is of_each of_is =
    AllByRecursion-map (λ (t : Var × Amount). P t.0) term is (AllByRecursion-weaker Q (λ j. P (term j).0) of_each is of_is)

-- ---- by number

-- what the terms of the equation of this number are
abbrev pub AtNumber : ℕ → Data → Index → ℕ → Type 0
AtNumber places d i n = AreValues d (subscripts_of n) i → stands_at d n i ≡ true → HasTerms places d (name_at n i)

infixr 4 ◌and◌
-- something, and what follows
pub ◌and◌ : {A B : Type 0} → A → B → A × B
a and b = (a, b)
