-- An equation defines the variable of its kind, with its own subscripts, or of the other direction of a trade.
use Rattle.row_book.proofs.Common.{◌≡◌, ◌≢◌, ℕ, suc, ◌<◌, ◌≤◌, Bool, true, false, ◌||◌, List, [], ◌∷◌, nat_eq, None, Some, refl, ap, ap₂, sym, ◌∙◌, ◌⊎◌, arith, inl, inr, eq-eqb, eqb-true, list_all, list_any, range_with_len, slice_index_or, if◌then◌else◌, bytes_eq, get_or-eq_default, ne_eqb, Index, RowName, IsEquation, defines_kind, subscripts_of_kind, equation_numbers, equation_of, name_at, no_equation, subscripts_of, variable_of, named_equations, other_trade, variable, EachFrom, at_number, defined_kinds, tidied, variable_by_kind}
use Rattle.std.proofs.lemmas.Slice.Eq.{bytes_eq-Decides}
use Rattle.row_book.proofs.Numbers.{in-range, passes-at, unless-so, where-so}

-- the kind of the variables that the equation of this number defines
abbrev pub kind_of : ℕ → ℕ
kind_of eq = slice_index_or defined_kinds eq 0

abbrev IsByKind : Index → ℕ → Type 0
IsByKind i n = variable_of (name_at n i) ≡ variable_by_kind (kind_of n) n i

by_kind : (i : Index) → EachFrom (IsByKind i) 1 64
by_kind i = (refl, (refl, (refl, (refl, (refl, (refl, (refl, (refl, (refl, (refl, (refl, (refl, (refl, (refl, (refl, (refl, (refl, (refl, (refl, (refl, (refl, (refl, (refl, (refl, (refl, (refl, (refl, (refl, (refl, (refl, (refl, (refl, (refl, (refl, (refl, (refl, (refl, (refl, (refl, (refl, (refl, (refl, (refl, (refl, (refl, (refl, (refl, (refl, (refl, (refl, (refl, (refl, (refl, (refl, (refl, (refl, (refl, (refl, (refl, (refl, (refl, (refl, (refl, (refl, tt))))))))))))))))))))))))))))))))))))))))))))))))))))))))))))))))

pub defined-by_kind : (name : RowName) → IsEquation name.eq → variable_of name ≡ variable_by_kind (kind_of name.eq) name.eq name.index
defined-by_kind name equation = at_number (IsByKind name.index) 1 64 name.eq (by_kind name.index) equation.0 (omega (arith, equation.1))

-- of a kind that isn't one
pub none-defined : (name : RowName) (kind : ℕ) → IsEquation name.eq → kind ≡ kind_of name.eq → kind ≡ 0 → None ≡ variable_of name
none-defined name kind equation is zero_is =
    sym (defined-by_kind name equation ∙ ap (λ k. variable_by_kind k name.eq name.index) (sym is ∙ zero_is))

-- of the kind of Trade
pub trade-defined : (name : RowName) (kind : ℕ) → IsEquation name.eq → kind ≡ kind_of name.eq → kind ≡ 3 → other_trade name.index ≡ variable_of name
trade-defined name kind equation is three_is =
    sym (defined-by_kind name equation ∙ ap (λ k. variable_by_kind k name.eq name.index) (sym is ∙ three_is))

-- of any other kind
pub variable-defined : (name : RowName) (kind : ℕ) → IsEquation name.eq → kind ≡ kind_of name.eq → kind ≢ 0 → kind ≢ 3
    → Some (variable kind (tidied (subscripts_of name.eq) name.index)) ≡ variable_of name
variable-defined name kind equation is some other =
    sym
    (defined-by_kind name equation
    ∙ ap (λ k. variable_by_kind k name.eq name.index) (sym is)
    ∙ ap (λ b. if b then None else if nat_eq kind 3 then other_trade name.index else Some (variable kind (tidied (subscripts_of name.eq) name.index))) (ne_eqb kind 0 some)
    ∙ ap (λ b. if b then other_trade name.index else Some (variable kind (tidied (subscripts_of name.eq) name.index))) (ne_eqb kind 3 other))

-- a number that is no equation's defines nothing
past : (eq : ℕ) → 64 < eq → equation_of eq ≡ equation_of 65
past eq above =
    let beyond : 65 ≤ eq = omega (arith, above) in
    get_or-eq_default (no_equation ∷ named_equations) no_equation beyond

pub nothing-defined : (name : RowName) → (name.eq < 1) ⊎ ((1 ≤ name.eq) × (64 < name.eq)) → None ≡ variable_of name
nothing-defined name (inl below) =
    let zero_is : name.eq ≡ 0 = omega (arith, below) in
    sym (ap (λ n. (equation_of n).defines name.index) zero_is)
nothing-defined name (inr above) = sym (ap (λ e. e.defines name.index) (past name.eq above.1))

-- ---- which kinds the numbers have

-- it is the kind that its definition has
pub defines-kind : (n kind : ℕ) → IsEquation n → defines_kind kind n ≡ (if nat_eq (kind_of n) 0 then false else nat_eq (kind_of n) kind)
defines-kind n kind equation =
    at_number (λ m. defines_kind kind m ≡ (if nat_eq (kind_of m) 0 then false else nat_eq (kind_of m) kind)) 1 64 n
    (refl, (refl, (refl, (refl, (refl, (refl, (refl, (refl, (refl, (refl, (refl, (refl, (refl, (refl, (refl, (refl, (refl, (refl, (refl, (refl, (refl, (refl, (refl, (refl, (refl, (refl, (refl, (refl, (refl, (refl, (refl, (refl, (refl, (refl, (refl, (refl, (refl, (refl, (refl, (refl, (refl, (refl, (refl, (refl, (refl, (refl, (refl, (refl, (refl, (refl, (refl, (refl, (refl, (refl, (refl, (refl, (refl, (refl, (refl, (refl, (refl, (refl, (refl, (refl, tt))))))))))))))))))))))))))))))))))))))))))))))))))))))))))))))))
    equation.0 (omega (arith, equation.1))

-- the place of the number in the list
abbrev place_in : ℕ → List ℕ → ℕ
place_in k [] = 0
place_in k (n ∷ ns) = if nat_eq k n then 0 else suc (place_in k ns)

-- each kind but SalvageValue, number 25, has one equation that defines it
abbrev stands_alone : ℕ → Bool
stands_alone n = if nat_eq (kind_of n) 0 || nat_eq (kind_of n) 25 then true else nat_eq n (place_in (kind_of n) defined_kinds)

each-alone : list_all stands_alone equation_numbers ≡ true
each-alone = refl

pub one-number : (n m : ℕ) → IsEquation n → IsEquation m → kind_of n ≡ kind_of m → kind_of n ≢ 0 → kind_of n ≢ 25 → n ≡ m
one-number n m of_n of_m same some other = at_place n of_n some other ∙ ap (λ k. place_in k defined_kinds) same ∙ sym (at_place m of_m (λ e. some (same ∙ e)) (λ e. other (same ∙ e)))
  where
    at_place : (i : ℕ) → IsEquation i → kind_of i ≢ 0 → kind_of i ≢ 25 → i ≡ place_in (kind_of i) defined_kinds
    at_place i of_i not_0 not_25 =
        eqb-true i (place_in (kind_of i) defined_kinds)
        (unless-so (nat_eq (kind_of i) 0 || nat_eq (kind_of i) 25) (nat_eq i (place_in (kind_of i) defined_kinds))
        (ap₂ (λ a b. a || b) (ne_eqb (kind_of i) 0 not_0) (ne_eqb (kind_of i) 25 not_25))
        (passes-at stands_alone 1 64 i each-alone of_i.0 (omega (arith, of_i.1))))

-- SalvageValue has three
abbrev is_of_salvage : ℕ → Bool
is_of_salvage n = if nat_eq (kind_of n) 25 then list_any (nat_eq n) (range_with_len 27 3) else true

of-salvage : list_all is_of_salvage equation_numbers ≡ true
of-salvage = refl

pub salvage-number : (n : ℕ) → IsEquation n → kind_of n ≡ 25 → (27 ≤ n) × (n ≤ 29)
salvage-number n of_n is =
    let range =
    in-range n 27 3
    (where-so (nat_eq (kind_of n) 25) (list_any (nat_eq n) (range_with_len 27 3)) (eq-eqb (kind_of n) 25 is) (passes-at is_of_salvage 1 64 n of-salvage of_n.0 (omega (arith, of_n.1)))) in
    (range.0, omega (arith, range.1))

-- Trade has one
abbrev is_of_trade : ℕ → Bool
is_of_trade n = if nat_eq (kind_of n) 3 then nat_eq n 16 else true

of-trade : list_all is_of_trade equation_numbers ≡ true
of-trade = refl

pub trade-number : (n : ℕ) → IsEquation n → kind_of n ≡ 3 → n ≡ 16
trade-number n of_n is =
    eqb-true n 16
    (where-so (nat_eq (kind_of n) 3) (nat_eq n 16) (eq-eqb (kind_of n) 3 is) (passes-at is_of_trade 1 64 n of-trade of_n.0 (omega (arith, of_n.1))))

-- an equation has the subscripts of the kind that it defines
abbrev has_subscripts_of_kind : ℕ → Bool
has_subscripts_of_kind n = if nat_eq (kind_of n) 0 then true else bytes_eq (subscripts_of n) (subscripts_of_kind (kind_of n))

each-subscripts : list_all has_subscripts_of_kind equation_numbers ≡ true
each-subscripts = refl

pub same-subscripts : (n : ℕ) → IsEquation n → kind_of n ≢ 0 → subscripts_of n ≡ subscripts_of_kind (kind_of n)
same-subscripts n of_n some =
    (bytes_eq-Decides (subscripts_of n) (subscripts_of_kind (kind_of n))).0
    (unless-so (nat_eq (kind_of n) 0) (bytes_eq (subscripts_of n) (subscripts_of_kind (kind_of n))) (ne_eqb (kind_of n) 0 some)
    (passes-at has_subscripts_of_kind 1 64 n each-subscripts of_n.0 (omega (arith, of_n.1))))
