-- Sums of multiplier times number over rows, with a part of their own at one name; and a bound with the price of what is more there.
use Rattle.certificate_checker.proofs.Common.{◌≡◌, ℤ, pos, ◌+ℤ◌, ◌*ℤ◌, Bool, true, false, List, [], ◌∷◌, refl, ap, ap₂, ◌∙◌, subst, inl, inr, arith, is_eq, ordering_reverse, Ordering, ints, *ℤ_nonnegative, ≤ℤ-*ℤ, ≤ℤ_cancel, ring, products, *ℤ-zero, +ℤ-zero, zero-+ℤ, Row, RowName, ascends, row_name_cmp, ascends-first, ascends-tail, row_name_cmp_exact, row_name_cmp_total, weighted}
use Rattle.std.specs.Prelude.{◌<ℤ◌, ◌≤ℤ◌, if◌then◌else◌}
use Rattle.std.specs.declared.cmp.Ordering.TheVariants.{Less, Equal as Alike, Greater}
use Rattle.std.proofs.lemmas.Cmp.{tied_itself}
use Rattle.row_core.specs.RowLists.{names_of}
use Rattle.row_core.proofs.Members.{Contains-from_Has, Has, Has-map}

-- ---- names

pub same-name : (a b : RowName) → is_eq (row_name_cmp a b) ≡ true → a ≡ b
same-name a b h = row_name_cmp_exact a b (alike (row_name_cmp a b) h)
  where
    alike : (o : Ordering) → is_eq o ≡ true → o ≡ Alike
    alike Less h = absurd (cc h)
    alike Alike h = refl
    alike Greater h = absurd (cc h)

pub name-itself : (a b : RowName) → a ≡ b → is_eq (row_name_cmp a b) ≡ true
name-itself a b e = subst (λ c. is_eq (row_name_cmp a c) ≡ true) e (ap is_eq (tied_itself row_name_cmp_total a))

-- ---- a part of its own at one name

-- the number at the rows of this name, and 0 at others
abbrev pub at_name : RowName → (Row → ℤ) → Row → ℤ
at_name name f row = if is_eq (row_name_cmp row.name name) then f row else pos 0

pub weighted-plus : (y : RowName → ℤ) (f g : Row → ℤ) (rows : List Row) → weighted y (λ row. f row +ℤ g row) rows ≡ weighted y f rows +ℤ weighted y g rows
weighted-plus y f g [] = refl
weighted-plus y f g (row ∷ rows) =
    ap (λ z. (y row.name *ℤ (f row +ℤ g row)) +ℤ z) (weighted-plus y f g rows) ∙ apart (y row.name) (f row) (g row) (weighted y f rows) (weighted y g rows)
  where
    apart : (y a b s t : ℤ) → (y *ℤ (a +ℤ b)) +ℤ (s +ℤ t) ≡ ((y *ℤ a) +ℤ s) +ℤ ((y *ℤ b) +ℤ t)
    apart y a b s t = simp ring

-- the first name is none of the later ones
pub later : (row other : Row) (rows : List Row) → ascends row_name_cmp (names_of (row ∷ rows)) ≡ true → Has rows other → is_eq (row_name_cmp row.name other.name) ≡ false
later row other rows up has =
    let found = Contains-from_Has (names_of rows) other.name (Has-map (λ (r : Row). r.name) rows other has) in
    let before = ascends-first row_name_cmp row_name_cmp_total row.name (names_of rows) up found.0 other.name found.1 in
    subst (λ n. is_eq (row_name_cmp row.name n) ≡ false) found.2 (ap is_eq before)

is_eq-reversed : (o : Ordering) → is_eq (ordering_reverse o) ≡ is_eq o
is_eq-reversed Less = refl
is_eq-reversed Alike = refl
is_eq-reversed Greater = refl

-- nor is a later one the first
pub earlier : (row other : Row) (rows : List Row) → ascends row_name_cmp (names_of (row ∷ rows)) ≡ true → Has rows other → is_eq (row_name_cmp other.name row.name) ≡ false
earlier row other rows up has =
    ap is_eq (row_name_cmp_total.antisymm other.name row.name) ∙ is_eq-reversed (row_name_cmp row.name other.name) ∙ later row other rows up has

pub weighted-none : (y : RowName → ℤ) (f : Row → ℤ) (name : RowName) (rows : List Row) → ((row : Row) → Has rows row → is_eq (row_name_cmp row.name name) ≡ false) → weighted y (at_name name f) rows ≡ pos 0
weighted-none y f name [] none = refl
weighted-none y f name (row ∷ rows) none =
    ap₂ (λ (b : Bool) z. (y row.name *ℤ (if b then f row else pos 0)) +ℤ z) (none row (inl refl)) (weighted-none y f name rows (λ r has. none r (inr has)))
    ∙ ap (λ z. z +ℤ pos 0) (*ℤ-zero (y row.name))

-- of rows whose names ascend, the one of the name is all that is left
pub weighted-one : (y : RowName → ℤ) (f : Row → ℤ) (rows : List Row) (row : Row) → ascends row_name_cmp (names_of rows) ≡ true → Has rows row → weighted y (at_name row.name f) rows ≡ y row.name *ℤ f row
weighted-one y f [] row up has = absurd has
weighted-one y f (first ∷ rows) row up (inl e) =
    subst (λ (r : Row). weighted y (at_name r.name f) (first ∷ rows) ≡ y r.name *ℤ f r) e
    (ap₂ (λ (b : Bool) z. (y first.name *ℤ (if b then f first else pos 0)) +ℤ z) (name-itself first.name first.name refl)
    (weighted-none y f first.name rows (λ r has. earlier first r rows up has))
    ∙ +ℤ-zero (y first.name *ℤ f first))
weighted-one y f (first ∷ rows) row up (inr has) =
    ap₂ (λ (b : Bool) z. (y first.name *ℤ (if b then f first else pos 0)) +ℤ z) (later first row rows up has) (weighted-one y f rows row (ascends-tail row_name_cmp first.name (names_of rows) up) has)
    ∙ ap (λ z. z +ℤ y row.name *ℤ f row) (*ℤ-zero (y first.name)) ∙ zero-+ℤ (y row.name *ℤ f row)

-- ---- in fractions

-- both sides are divided by s
pub fractions : (s b q a c low lb top tb n p : ℤ) → pos 0 <ℤ s → pos 0 <ℤ lb → pos 0 <ℤ tb → n *ℤ lb ≡ low *ℤ s → p *ℤ tb ≡ top *ℤ s
    → ((n *ℤ b +ℤ p *ℤ a) *ℤ q) ≤ℤ (s *ℤ b *ℤ c) → ((low *ℤ tb *ℤ b +ℤ top *ℤ a *ℤ lb) *ℤ q) ≤ℤ (lb *ℤ tb *ℤ b *ℤ c)
fractions s b q a c low lb top tb n p s_positive lb_positive tb_positive bound price least =
    let wide : ((lb *ℤ tb) *ℤ ((n *ℤ b +ℤ p *ℤ a) *ℤ q)) ≤ℤ ((lb *ℤ tb) *ℤ (s *ℤ b *ℤ c)) =
    ≤ℤ-*ℤ ((n *ℤ b +ℤ p *ℤ a) *ℤ q) (s *ℤ b *ℤ c) (lb *ℤ tb) (*ℤ_nonnegative lb tb (omega (arith, ints, lb_positive)) (omega (arith, ints, tb_positive))) least in
    let left : (lb *ℤ tb) *ℤ ((n *ℤ b +ℤ p *ℤ a) *ℤ q) ≡ ((low *ℤ tb *ℤ b +ℤ top *ℤ a *ℤ lb) *ℤ q) *ℤ s =
    apart n lb p tb a b q ∙ ap₂ (λ u v. (u *ℤ tb *ℤ b +ℤ v *ℤ a *ℤ lb) *ℤ q) bound price ∙ together low tb top lb a b q s in
    ≤ℤ_cancel ((low *ℤ tb *ℤ b +ℤ top *ℤ a *ℤ lb) *ℤ q) (lb *ℤ tb *ℤ b *ℤ c) s s_positive
    (subst (λ z. z ≤ℤ ((lb *ℤ tb *ℤ b *ℤ c) *ℤ s)) left (subst (λ z. ((lb *ℤ tb) *ℤ ((n *ℤ b +ℤ p *ℤ a) *ℤ q)) ≤ℤ z) (sorted lb tb s b c) wide))
  where
    apart : (n lb p tb a b q : ℤ) → (lb *ℤ tb) *ℤ ((n *ℤ b +ℤ p *ℤ a) *ℤ q) ≡ ((n *ℤ lb) *ℤ tb *ℤ b +ℤ (p *ℤ tb) *ℤ a *ℤ lb) *ℤ q
    apart n lb p tb a b q = simp ring

    together : (low tb top lb a b q s : ℤ) → ((low *ℤ s) *ℤ tb *ℤ b +ℤ (top *ℤ s) *ℤ a *ℤ lb) *ℤ q ≡ ((low *ℤ tb *ℤ b +ℤ top *ℤ a *ℤ lb) *ℤ q) *ℤ s
    together low tb top lb a b q s = simp ring

    sorted : (lb tb s b c : ℤ) → (lb *ℤ tb) *ℤ (s *ℤ b *ℤ c) ≡ (lb *ℤ tb *ℤ b *ℤ c) *ℤ s
    sorted lb tb s b c = simp products
