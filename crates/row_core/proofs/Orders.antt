-- The orders on subscripts, variables and row names are total, and what compares alike is the same.
use Rattle.row_core.proofs.Common.{◌≡◌, ℕ, refl, Ordering, Less, Equal, Greater, IsTotalOrder, nat_cmp, ordering_then, Var, RowName, index_cmp, var_cmp, row_name_cmp}
use Rattle.std.proofs.lemmas.Cmp.{on_total, then_total, nat_cmp_total}
use Rattle.std.proofs.lemmas.Map.Lookups.{CmpEqualImpliesEq, exact_unsigned}
use Rattle.row_core.specs.declared.Index.{Index}
use Rattle.row_core.specs.OrderLaws.{index_cmp_total}

-- a function of eight numbers has one value where they are the same
same_of_eight : {X : Type 0} (g : ℕ → ℕ → ℕ → ℕ → ℕ → ℕ → ℕ → ℕ → X) (a b c d e f h k a' b' c' d' e' f' h' k' : ℕ) → a ≡ a' → b ≡ b' → c ≡ c' → d ≡ d' → e ≡ e' → f ≡ f' → h ≡ h' → k ≡ k' → g a b c d e f h k ≡ g a' b' c' d' e' f' h' k'
same_of_eight g a b c d e f h k a' b' c' d' e' f' h' k' p q r s t u v w = cc

-- the same of a number and subscripts
same_of_two : {X : Type 0} (g : ℕ → Index → X) (a a' : ℕ) (b b' : Index) → a ≡ a' → b ≡ b' → g a b ≡ g a' b'
same_of_two g a a' b b' p q = cc

-- values with the same fields are the same
same_index : (a b : Index) → a.region ≡ b.region → a.other ≡ b.other → a.slice ≡ b.slice → a.tech ≡ b.tech → a.fuel ≡ b.fuel → a.emission ≡ b.emission → a.mode ≡ b.mode → a.year ≡ b.year → a ≡ b
same_index a b =
    same_of_eight
    (λ region other slice tech fuel emission mode year. record {
      region = region;
      other = other;
      slice = slice;
      tech = tech;
      fuel = fuel;
      emission = emission;
      mode = mode;
      year = year;
    })
    a.region a.other a.slice a.tech a.fuel a.emission a.mode a.year b.region b.other b.slice b.tech b.fuel b.emission b.mode b.year

same_var : (a b : Var) → a.kind ≡ b.kind → a.index ≡ b.index → a ≡ b
same_var a b = same_of_two (λ kind index. record { kind = kind; index = index }) a.kind b.kind a.index b.index

same_row_name : (a b : RowName) → a.eq ≡ b.eq → a.index ≡ b.index → a ≡ b
same_row_name a b = same_of_two (λ eq index. record { eq = eq; index = index }) a.eq b.eq a.index b.index

pub var_cmp_total : IsTotalOrder var_cmp
var_cmp_total = then_total (on_total (λ (v : Var). v.kind) nat_cmp_total) (on_total (λ (v : Var). v.index) index_cmp_total)

pub row_name_cmp_total : IsTotalOrder row_name_cmp
row_name_cmp_total =
    then_total (on_total (λ (n : RowName). n.eq) nat_cmp_total) (on_total (λ (n : RowName). n.index) index_cmp_total)

-- two parts compared in turn are alike only where both are
both_alike : (o rest : Ordering) → ordering_then o rest ≡ Equal → (o ≡ Equal) × (rest ≡ Equal)
both_alike Less rest h = absurd (cc h)
both_alike Equal rest h = (refl, h)
both_alike Greater rest h = absurd (cc h)

-- subscripts that compare alike are the same
pub index_cmp_exact : CmpEqualImpliesEq index_cmp
index_cmp_exact a b h =
    let region = both_alike (nat_cmp a.region b.region) _ h in
    let other = both_alike (nat_cmp a.other b.other) _ region.1 in
    let slice = both_alike (nat_cmp a.slice b.slice) _ other.1 in
    let tech = both_alike (nat_cmp a.tech b.tech) _ slice.1 in
    let fuel = both_alike (nat_cmp a.fuel b.fuel) _ tech.1 in
    let emission = both_alike (nat_cmp a.emission b.emission) _ fuel.1 in
    let mode = both_alike (nat_cmp a.mode b.mode) (nat_cmp a.year b.year) emission.1 in
    same_index a b (exact_unsigned _ _ region.0) (exact_unsigned _ _ other.0) (exact_unsigned _ _ slice.0) (exact_unsigned _ _ tech.0)
    (exact_unsigned _ _ fuel.0) (exact_unsigned _ _ emission.0) (exact_unsigned _ _ mode.0) (exact_unsigned _ _ mode.1)

-- variables that compare alike are the same
pub var_cmp_exact : CmpEqualImpliesEq var_cmp
var_cmp_exact a b h =
    let kind = both_alike (nat_cmp a.kind b.kind) (index_cmp a.index b.index) h in
    same_var a b (exact_unsigned _ _ kind.0) (index_cmp_exact _ _ kind.1)

-- row names that compare alike are the same
pub row_name_cmp_exact : CmpEqualImpliesEq row_name_cmp
row_name_cmp_exact a b h =
    let eq = both_alike (nat_cmp a.eq b.eq) (index_cmp a.index b.index) h in
    same_row_name a b (exact_unsigned _ _ eq.0) (index_cmp_exact _ _ eq.1)
