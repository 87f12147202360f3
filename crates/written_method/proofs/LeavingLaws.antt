-- The row that leaves has the least quotient of right side by entry, and of those with this quotient the least rank.
use Rattle.written_method.proofs.Common.{◌≡◌, ℕ, zero, suc, ◌+◌, ◌<◌, ◌≤◌, ℤ, pos, ◌*ℤ◌, Bool, true, false, Option, Some, None, List, [], ◌∷◌, length, get_or, arith, refl, sym, ap, ap₂, ◌∙◌, subst, ◌⊎◌, inl, inr, if◌then◌else◌, ◌<ℤ◌, ◌≤ℤ◌, int_lt, nat_lt, int_cmp, Ordering, nat_tests, ints, lowest, order_of, nonzero_of_pos, *ℤ_pos, *ℤ-≤ℤ, ≤ℤ_cancel, ≤ℤ_or_<ℤ, lowest-cross, lowest-IsLowest, products, Line, entry_of, no_line, Candidate, candidate_at, leaves_before, better, rank_of, leaving_from}
use Rattle.std.specs.declared.cmp.Ordering.TheVariants.{Less, Equal, Greater}
use Rattle.exact_num.proofs.OrderLaws.{int_cmp-less, int_cmp-greater, int_cmp-mul}

-- ---- quotients

order_of-lowest : (r e s f : ℤ) → pos 0 <ℤ e → pos 0 <ℤ f → order_of (lowest r e) (lowest s f) ≡ int_cmp (r *ℤ f) (s *ℤ e)
unfolding order_of
order_of-lowest r e s f p q =
    let x = lowest r e in
    let y = lowest s f in
    let xb : pos 0 <ℤ x.bottom = (lowest-IsLowest r e (nonzero_of_pos e p)).positive in
    let yb : pos 0 <ℤ y.bottom = (lowest-IsLowest s f (nonzero_of_pos f q)).positive in
    let a : x.top *ℤ e ≡ r *ℤ x.bottom = lowest-cross r e (nonzero_of_pos e p) in
    let b : y.top *ℤ f ≡ s *ℤ y.bottom = lowest-cross s f (nonzero_of_pos f q) in
    let left : (x.top *ℤ y.bottom) *ℤ (e *ℤ f) ≡ (r *ℤ f) *ℤ (x.bottom *ℤ y.bottom) = out x.top y.bottom e f ∙ ap (λ z. z *ℤ (y.bottom *ℤ f)) a ∙ in_first r x.bottom y.bottom f in
    let right : (y.top *ℤ x.bottom) *ℤ (e *ℤ f) ≡ (s *ℤ e) *ℤ (x.bottom *ℤ y.bottom) = out_second y.top x.bottom e f ∙ ap (λ z. z *ℤ (x.bottom *ℤ e)) b ∙ in_second s y.bottom x.bottom e in
    sym (int_cmp-mul (x.top *ℤ y.bottom) (y.top *ℤ x.bottom) (e *ℤ f) (*ℤ_pos e f p q))
    ∙ ap₂ int_cmp left right
    ∙ int_cmp-mul (r *ℤ f) (s *ℤ e) (x.bottom *ℤ y.bottom) (*ℤ_pos x.bottom y.bottom xb yb)
  where
    out : (t u e f : ℤ) → (t *ℤ u) *ℤ (e *ℤ f) ≡ (t *ℤ e) *ℤ (u *ℤ f)
    out t u e f = simp products

    in_first : (r x y f : ℤ) → (r *ℤ x) *ℤ (y *ℤ f) ≡ (r *ℤ f) *ℤ (x *ℤ y)
    in_first r x y f = simp products

    out_second : (t u e f : ℤ) → (t *ℤ u) *ℤ (e *ℤ f) ≡ (t *ℤ f) *ℤ (u *ℤ e)
    out_second t u e f = simp products

    in_second : (s y x e : ℤ) → (s *ℤ y) *ℤ (x *ℤ e) ≡ (s *ℤ e) *ℤ (x *ℤ y)
    in_second s y x e = simp products

before : Ordering → Bool → Bool
before o t = elim o [ Less ↦ true | Equal ↦ t | Greater ↦ false ]

before-true : (a b : ℤ) (t : Bool) → before (int_cmp a b) t ≡ true → a ≤ℤ b
unfolding before
before-true a b t h = elim (≤ℤ_or_<ℤ a b) [ inl le ↦ le | inr gt ↦ absurd (cc (ap (λ o. before o t) (int_cmp-greater a b gt), h)) ]

before-false : (a b : ℤ) (t : Bool) → before (int_cmp a b) t ≡ false → b ≤ℤ a
unfolding before
before-false a b t h = elim (≤ℤ_or_<ℤ b a) [ inl le ↦ le | inr gt ↦ absurd (cc (ap (λ o. before o t) (int_cmp-less a b gt), h)) ]

before-tie : (a b : ℤ) (t : Bool) → a ≡ b → before (int_cmp a b) t ≡ t
unfolding before
before-tie a b t h = ap (λ x. before (int_cmp x b) t) h ∙ ap (λ o. before o t) (int_cmp-equal b b refl)
  where
    int_cmp-equal : (x y : ℤ) → x ≡ y → int_cmp x y ≡ Equal
    int_cmp-equal x y e = grind (arith, ints)

-- the quotient of the first is at most that of the second
abbrev pub AtMost : ℤ → ℤ → ℤ → ℤ → Type 0
AtMost r e s f = (r *ℤ f) ≤ℤ (s *ℤ e)

turned : (x y z : ℤ) → (x *ℤ y) *ℤ z ≡ (x *ℤ z) *ℤ y
turned x y z = simp products

pub AtMost-trans : (r e s f t g : ℤ) → pos 0 <ℤ e → pos 0 <ℤ f → pos 0 <ℤ g → AtMost r e s f → AtMost s f t g → AtMost r e t g
AtMost-trans r e s f t g pe pf pg h k =
    let first : ((r *ℤ f) *ℤ g) ≤ℤ ((s *ℤ e) *ℤ g) = *ℤ-≤ℤ (r *ℤ f) (s *ℤ e) g (omega (arith, ints)) h in
    let second : ((s *ℤ g) *ℤ e) ≤ℤ ((t *ℤ f) *ℤ e) = *ℤ-≤ℤ (s *ℤ g) (t *ℤ f) e (omega (arith, ints)) k in
    ≤ℤ_cancel (r *ℤ g) (t *ℤ e) f pf
    (subst (λ z. z ≤ℤ ((t *ℤ e) *ℤ f)) (turned r f g) (subst (λ z. ((r *ℤ f) *ℤ g) ≤ℤ z) (turned t f e) (omega (arith, ints, turned s e g))))

-- where the outer two quotients are equal, so are those between
tie_left : (r e s f t g : ℤ) → pos 0 <ℤ e → pos 0 <ℤ g → AtMost r e s f → AtMost s f t g → r *ℤ g ≡ t *ℤ e → r *ℤ f ≡ s *ℤ e
tie_left r e s f t g pe pg h k same =
    let up : ((s *ℤ g) *ℤ e) ≤ℤ ((t *ℤ f) *ℤ e) = *ℤ-≤ℤ (s *ℤ g) (t *ℤ f) e (omega (arith, ints)) k in
    let across : (t *ℤ f) *ℤ e ≡ (r *ℤ f) *ℤ g = turned t f e ∙ ap (λ z. z *ℤ f) (sym same) ∙ turned r g f in
    let back : (s *ℤ e) ≤ℤ (r *ℤ f) = ≤ℤ_cancel (s *ℤ e) (r *ℤ f) g pg (subst (λ z. z ≤ℤ ((r *ℤ f) *ℤ g)) (turned s g e) (subst (λ z. ((s *ℤ g) *ℤ e) ≤ℤ z) across up)) in
    omega (arith, ints)

tie_right : (r e s f t g : ℤ) → pos 0 <ℤ e → pos 0 <ℤ g → AtMost r e s f → AtMost s f t g → r *ℤ g ≡ t *ℤ e → s *ℤ g ≡ t *ℤ f
tie_right r e s f t g pe pg h k same =
    let up : ((r *ℤ f) *ℤ g) ≤ℤ ((s *ℤ e) *ℤ g) = *ℤ-≤ℤ (r *ℤ f) (s *ℤ e) g (omega (arith, ints)) h in
    let across : (r *ℤ f) *ℤ g ≡ (t *ℤ f) *ℤ e = turned r f g ∙ ap (λ z. z *ℤ f) same ∙ turned t e f in
    let back : (t *ℤ f) ≤ℤ (s *ℤ g) = ≤ℤ_cancel (t *ℤ f) (s *ℤ g) e pe (subst (λ z. z ≤ℤ ((s *ℤ g) *ℤ e)) across (subst (λ z. ((r *ℤ f) *ℤ g) ≤ℤ z) (turned s e g) up)) in
    omega (arith, ints)

-- the first leaves no later than the second: by quotient, and at a tie by rank
pub record Leads (r e : ℤ) (k : ℕ) (s f : ℤ) (l : ℕ) : Type 0 where
  pub least : AtMost r e s f
  pub ties : r *ℤ f ≡ s *ℤ e → k ≤ l

Leads-self : (r e : ℤ) (k : ℕ) → Leads r e k r e k
Leads-self r e k = record { least = omega (arith, ints); ties = λ h. omega arith }

Leads-trans : (r e : ℤ) (k : ℕ) (s f : ℤ) (l : ℕ) (t g : ℤ) (m : ℕ) → pos 0 <ℤ e → pos 0 <ℤ f → pos 0 <ℤ g → Leads r e k s f l → Leads s f l t g m → Leads r e k t g m
Leads-trans r e k s f l t g m pe pf pg h i = record {
  least = AtMost-trans r e s f t g pe pf pg h.least i.least;
  ties = λ same.
      let first : k ≤ l = h.ties (tie_left r e s f t g pe pg h.least i.least same) in
      let second : l ≤ m = i.ties (tie_right r e s f t g pe pg h.least i.least same) in
      omega arith;
}

-- the better of two leads both
record IsBetter (b a c : Candidate) : Type 0 where
  positive : pos 0 <ℤ c.entry
  first : Leads c.right c.entry c.rank b.right b.entry b.rank
  second : Leads c.right c.entry c.rank a.right a.entry a.rank
  one : (c ≡ b) ⊎ (c ≡ a)

lt_le : (k l : ℕ) → nat_lt k l ≡ true → k ≤ l
lt_le k l h = grind (arith, nat_tests)

not_lt_le : (k l : ℕ) → nat_lt k l ≡ false → l ≤ k
not_lt_le k l h = grind (arith, nat_tests)

better-IsBetter : (b a : Candidate) → pos 0 <ℤ b.entry → pos 0 <ℤ a.entry → IsBetter b a (better (Some b) a)
unfolding before
better-IsBetter b a p q = cases (leaves_before a b) refl
  where
    test : leaves_before a b ≡ before (int_cmp (a.right *ℤ b.entry) (b.right *ℤ a.entry)) (nat_lt a.rank b.rank)
    test = ap (λ o. before o (nat_lt a.rank b.rank)) (order_of-lowest a.right a.entry b.right b.entry q p)

    tie : a.right *ℤ b.entry ≡ b.right *ℤ a.entry → leaves_before a b ≡ nat_lt a.rank b.rank
    tie same = test ∙ before-tie (a.right *ℤ b.entry) (b.right *ℤ a.entry) (nat_lt a.rank b.rank) same

    cases : (t : Bool) → leaves_before a b ≡ t → IsBetter b a (if t then a else b)
    cases true e = record {
      positive = q;
      first = record { least = before-true (a.right *ℤ b.entry) (b.right *ℤ a.entry) (nat_lt a.rank b.rank) (sym test ∙ e); ties = λ same. lt_le a.rank b.rank (sym (tie same) ∙ e) };
      second = Leads-self a.right a.entry a.rank;
      one = inr refl;
    }
    cases false e = record {
      positive = p;
      first = Leads-self b.right b.entry b.rank;
      second = record { least = before-false (a.right *ℤ b.entry) (b.right *ℤ a.entry) (nat_lt a.rank b.rank) (sym test ∙ e); ties = λ same. not_lt_le a.rank b.rank (sym (tie (sym same)) ∙ e) };
      one = inl refl;
    }

-- ---- the choice over all rows

abbrev Positive : Option Candidate → Type 0
Positive chosen = (b : Candidate) → chosen ≡ Some b → pos 0 <ℤ b.entry

-- the better of what was chosen and one more
record IsBest (chosen : Option Candidate) (a c : Candidate) : Type 0 where
  positive : pos 0 <ℤ c.entry
  before : (b : Candidate) → chosen ≡ Some b → Leads c.right c.entry c.rank b.right b.entry b.rank
  now : Leads c.right c.entry c.rank a.right a.entry a.rank
  one : (chosen ≡ Some c) ⊎ (c ≡ a)

some_same : (a b : Candidate) → Some a ≡ Some b → a ≡ b
some_same a b h = cc

better-IsBest : (chosen : Option Candidate) (a : Candidate) → Positive chosen → pos 0 <ℤ a.entry → IsBest chosen a (better chosen a)
better-IsBest None a p q = record { positive = q; before = λ b e. absurd (cc e); now = Leads-self a.right a.entry a.rank; one = inr refl }
better-IsBest (Some b) a p q =
    let m : IsBetter b a (better (Some b) a) = better-IsBetter b a (p b refl) q in
    record {
      positive = m.positive;
      before = λ d e. subst (λ (x : Candidate). Leads (better (Some b) a).right (better (Some b) a).entry (better (Some b) a).rank x.right x.entry x.rank) (some_same b d e) m.first;
      now = m.second;
      one = elim m.one [ inl e ↦ inl (ap Some (sym e)) | inr e ↦ inr e ];
    }

-- the candidate is that of row i
pub record IsOfRow (x0 : Option ℕ) (c at i : ℕ) (lines : List Line) (basics : List ℕ) (a : Candidate) : Type 0 where
  pub in_lines : i < length lines
  pub in_basics : i < length basics
  pub row : a.row ≡ at + i
  pub right : a.right ≡ (get_or lines i no_line).right
  pub entry : a.entry ≡ entry_of (get_or lines i no_line) c
  pub rank : a.rank ≡ rank_of x0 (get_or basics i 0)

-- the row that leaves, if there is one
pub record IsLeast (x0 : Option ℕ) (c at : ℕ) (chosen : Option Candidate) (lines : List Line) (basics : List ℕ) (a : Candidate) : Type 0 where
  pub positive : pos 0 <ℤ a.entry
  pub before : (b : Candidate) → chosen ≡ Some b → Leads a.right a.entry a.rank b.right b.entry b.rank
  pub rows : (i : ℕ) → i < length lines → i < length basics → pos 0 <ℤ entry_of (get_or lines i no_line) c
      → Leads a.right a.entry a.rank (get_or lines i no_line).right (entry_of (get_or lines i no_line) c) (rank_of x0 (get_or basics i 0))
  pub origin : (chosen ≡ Some a) ⊎ ((i : ℕ) × IsOfRow x0 c at i lines basics a)

nothing_more : (x0 : Option ℕ) (c at : ℕ) (chosen : Option Candidate) (lines : List Line) (basics : List ℕ) (a : Candidate) → (length lines ≡ 0) ⊎ (length basics ≡ 0) → Positive chosen → chosen ≡ Some a → IsLeast x0 c at chosen lines basics a
nothing_more x0 c at chosen lines basics a none p h = record {
  positive = p a h;
  before = λ b e. subst (λ (x : Candidate). Leads a.right a.entry a.rank x.right x.entry x.rank) (some_same a b (sym h ∙ e)) (Leads-self a.right a.entry a.rank);
  rows = λ i k l e. absurd (elim none [ inl z ↦ omega arith | inr z ↦ omega arith ]);
  origin = inl h;
}

pub leaving-IsLeast : (x0 : Option ℕ) (c at : ℕ) (chosen : Option Candidate) (lines : List Line) (basics : List ℕ) (a : Candidate) → Positive chosen → leaving_from x0 c at chosen lines basics ≡ Some a → IsLeast x0 c at chosen lines basics a
leaving-IsLeast x0 c at chosen lines [] a p h = nothing_more x0 c at chosen lines [] a (inr refl) p h
leaving-IsLeast x0 c at chosen [] (b ∷ bs) a p h = nothing_more x0 c at chosen [] (b ∷ bs) a (inl refl) p h
leaving-IsLeast x0 c at chosen (line ∷ lines) (b ∷ bs) a p h =
    pick (int_lt (pos 0) (entry_of line c)) refl (λ d q g. leaving-IsLeast x0 c (suc at) (Some d) lines bs a q g) (λ g. leaving-IsLeast x0 c (suc at) chosen lines bs a p g) h
  where
    here_is : Candidate
    here_is = candidate_at x0 c at line b

    later : (i : ℕ) → IsOfRow x0 c (suc at) i lines bs a → IsOfRow x0 c at (suc i) (line ∷ lines) (b ∷ bs) a
    later i w = record {
      in_lines = omega (arith, w.in_lines);
      in_basics = omega (arith, w.in_basics);
      row = omega (arith, w.row);
      right = w.right;
      entry = w.entry;
      rank = w.rank;
    }

    here : a ≡ candidate_at x0 c at line b → IsOfRow x0 c at 0 (line ∷ lines) (b ∷ bs) a
    here e = record {
      in_lines = omega arith;
      in_basics = omega arith;
      row = ap (λ (x : Candidate). x.row) e ∙ omega arith;
      right = ap (λ (x : Candidate). x.right) e;
      entry = ap (λ (x : Candidate). x.entry) e;
      rank = ap (λ (x : Candidate). x.rank) e;
    }

    takes : (d : Candidate) → IsBest chosen (candidate_at x0 c at line b) d → pos 0 <ℤ entry_of line c → IsLeast x0 c (suc at) (Some d) lines bs a → IsLeast x0 c at chosen (line ∷ lines) (b ∷ bs) a
    takes d m q l = record {
      positive = l.positive;
      before = λ u e. Leads-trans a.right a.entry a.rank d.right d.entry d.rank u.right u.entry u.rank l.positive m.positive (p u e) (l.before d refl) (m.before u e);
      rows = rows;
      origin = elim l.origin [
        | inl e ↦ elim m.one [
          | inl f ↦ inl (f ∙ e)
          | inr f ↦ inr (0, here (sym (some_same d a e) ∙ f))
        ]
        | inr w ↦ inr (suc w.0, later w.0 w.1)
      ];
    }
      where
        rows : (i : ℕ) → i < length (line ∷ lines) → i < length (b ∷ bs) → pos 0 <ℤ entry_of (get_or (line ∷ lines) i no_line) c
            → Leads a.right a.entry a.rank (get_or (line ∷ lines) i no_line).right (entry_of (get_or (line ∷ lines) i no_line) c) (rank_of x0 (get_or (b ∷ bs) i 0))
        rows zero j k e = Leads-trans a.right a.entry a.rank d.right d.entry d.rank line.right (entry_of line c) (rank_of x0 b) l.positive m.positive q (l.before d refl) m.now
        rows (suc i) j k e = l.rows i (omega arith) (omega arith) e

    passes : int_lt (pos 0) (entry_of line c) ≡ false → IsLeast x0 c (suc at) chosen lines bs a → IsLeast x0 c at chosen (line ∷ lines) (b ∷ bs) a
    passes t l = record {
      positive = l.positive;
      before = l.before;
      rows = rows;
      origin = elim l.origin [ inl e ↦ inl e | inr w ↦ inr (suc w.0, later w.0 w.1) ];
    }
      where
        rows : (i : ℕ) → i < length (line ∷ lines) → i < length (b ∷ bs) → pos 0 <ℤ entry_of (get_or (line ∷ lines) i no_line) c
            → Leads a.right a.entry a.rank (get_or (line ∷ lines) i no_line).right (entry_of (get_or (line ∷ lines) i no_line) c) (rank_of x0 (get_or (b ∷ bs) i 0))
        rows zero j k e = absurd (omega (arith, ints, t, e))
        rows (suc i) j k e = l.rows i (omega arith) (omega arith) e

    pick : (t : Bool) → int_lt (pos 0) (entry_of line c) ≡ t
        → ((d : Candidate) → Positive (Some d) → leaving_from x0 c (suc at) (Some d) lines bs ≡ Some a → IsLeast x0 c (suc at) (Some d) lines bs a)
        → (leaving_from x0 c (suc at) chosen lines bs ≡ Some a → IsLeast x0 c (suc at) chosen lines bs a)
        → (if t then leaving_from x0 c (suc at) (Some (better chosen (candidate_at x0 c at line b))) lines bs else leaving_from x0 c (suc at) chosen lines bs) ≡ Some a
        → IsLeast x0 c at chosen (line ∷ lines) (b ∷ bs) a
    pick true t f g h =
        let q : pos 0 <ℤ entry_of line c = omega (arith, ints, t) in
        let m : IsBest chosen (candidate_at x0 c at line b) (better chosen (candidate_at x0 c at line b)) = better-IsBest chosen (candidate_at x0 c at line b) p q in
        takes (better chosen (candidate_at x0 c at line b)) m q
        (f (better chosen (candidate_at x0 c at line b)) (λ u e. subst (λ (x : Candidate). pos 0 <ℤ x.entry) (some_same (better chosen (candidate_at x0 c at line b)) u e) m.positive) h)
    pick false t f g h = passes t (g h)

-- ---- no row can leave

some_leaves : (x0 : Option ℕ) (c at : ℕ) (b : Candidate) (lines : List Line) (basics : List ℕ) → leaving_from x0 c at (Some b) lines basics ≡ None → ⊥
some_leaves x0 c at b lines [] h = cc
some_leaves x0 c at b [] (d ∷ ds) h = cc
some_leaves x0 c at b (line ∷ lines) (d ∷ ds) h = pick (int_lt (pos 0) (entry_of line c)) (λ a. some_leaves x0 c (suc at) a lines ds) h
  where
    pick : (t : Bool) → ((a : Candidate) → leaving_from x0 c (suc at) (Some a) lines ds ≡ None → ⊥)
        → (if t then leaving_from x0 c (suc at) (Some (better (Some b) (candidate_at x0 c at line d))) lines ds else leaving_from x0 c (suc at) (Some b) lines ds) ≡ None → ⊥
    pick true ih g = ih (better (Some b) (candidate_at x0 c at line d)) g
    pick false ih g = ih b g

-- then no row has a positive entry there
pub none-leaves : (x0 : Option ℕ) (c at : ℕ) (lines : List Line) (basics : List ℕ) → leaving_from x0 c at None lines basics ≡ None → (i : ℕ) → i < length lines → i < length basics → entry_of (get_or lines i no_line) c ≤ℤ pos 0
none-leaves x0 c at lines [] h i j k = absurd (omega arith)
none-leaves x0 c at [] (d ∷ ds) h i j k = absurd (omega arith)
none-leaves x0 c at (line ∷ lines) (d ∷ ds) h i j k = pick (int_lt (pos 0) (entry_of line c)) refl (none-leaves x0 c (suc at) lines ds) h i j k
  where
    pick : (t : Bool) → int_lt (pos 0) (entry_of line c) ≡ t
        → (leaving_from x0 c (suc at) None lines ds ≡ None → (n : ℕ) → n < length lines → n < length ds → entry_of (get_or lines n no_line) c ≤ℤ pos 0)
        → (if t then leaving_from x0 c (suc at) (Some (candidate_at x0 c at line d)) lines ds else leaving_from x0 c (suc at) None lines ds) ≡ None
        → (n : ℕ) → n < length (line ∷ lines) → n < length (d ∷ ds) → entry_of (get_or (line ∷ lines) n no_line) c ≤ℤ pos 0
    pick true e ih g n l m = absurd (some_leaves x0 c (suc at) (candidate_at x0 c at line d) lines ds g)
    pick false e ih g zero l m = omega (arith, ints, e)
    pick false e ih g (suc n) l m = ih g n (omega arith) (omega arith)
