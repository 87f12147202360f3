-- Two lists of entries are combined column by column.
use Rattle.int_tableau.proofs.Common.{◌≡◌, ◌≢◌, ℕ, suc, ◌<◌, ◌≤◌, ℤ, pos, ◌+ℤ◌, Bool, true, false, List, [], ◌∷◌, ◌++◌, refl, sym, ap, ap₂, ◌∙◌, arith, inl, inr, ◌==◌, ints, cases_lt, InRange, all_fit, less, less_formed, only, at, IsSparse, head_column, taken_number, taken_rest, IsPushed, zeros_fit, less-zeros, less-sum}
use Rattle.int_tableau.proofs.EntryLaws.{eq_no, at-before, at-none, at-taken, at-last, IsSparse-head, IsSparse-high, IsSparse-taken, IsSparse-last, taken_number-at}

-- a times xs less b times ys so far: `out` has what is before `column`, and `ls` and `rs` are what is left
pub record IsMerge (columns : ℕ) (a b : ℤ) (xs ys : List (ℕ × ℤ)) (column : ℕ) (ls rs out : List (ℕ × ℤ)) : Type 0 where
  pub left : IsSparse column columns ls
  pub right : IsSparse column columns rs
  pub written : IsSparse 0 column out
  pub left_same : (c : ℕ) → column ≤ c → at xs c ≡ at ls c
  pub right_same : (c : ℕ) → column ≤ c → at ys c ≡ at rs c
  pub value : (c : ℕ) → at out c +ℤ less a b (at ls c) (at rs c) ≡ less a b (at xs c) (at ys c)
  pub fits : (c : ℕ) → c < column → all_fit (less_formed a b (at xs c) (at ys c)) ≡ true

pub zeros_fit_at : (a b x y : ℤ) → x ≡ pos 0 → y ≡ pos 0 → all_fit (less_formed a b x y) ≡ true
zeros_fit_at a b x y p q = ap₂ (λ u v. all_fit (less_formed a b u v)) p q ∙ zeros_fit a b

zero-+ : (z : ℤ) → pos 0 +ℤ z ≡ z
zero-+ z = omega (arith, ints)

-- nothing is done yet
pub IsMerge-none : (columns : ℕ) (a b : ℤ) (xs ys : List (ℕ × ℤ)) (column : ℕ) → IsSparse 0 columns xs → IsSparse 0 columns ys → column ≤ head_column columns xs → column ≤ head_column columns ys → IsMerge columns a b xs ys column xs ys []
IsMerge-none columns a b xs ys column s t h k =
    let l : IsSparse column columns xs = IsSparse-head 0 column columns xs s h in
    let r : IsSparse column columns ys = IsSparse-head 0 column columns ys t k in
    record {
      left = l;
      right = r;
      written = tt;
      left_same = λ c m. refl;
      right_same = λ c m. refl;
      value = λ c. zero-+ (less a b (at xs c) (at ys c));
      fits = λ c m. zeros_fit_at a b (at xs c) (at ys c) (at-before column columns xs c l m) (at-before column columns ys c r m);
    }

-- the numbers of one column, one after another
only-less : (t : Bool) (a b x y : ℤ) → less a b (only t x) (only t y) ≡ only t (less a b x y)
only-less true a b x y = refl
only-less false a b x y = less-zeros a b

moved : (p q r : ℤ) → (p +ℤ q) +ℤ r ≡ p +ℤ (q +ℤ r)
moved p q r = omega (arith, ints)

pub pushed : (column : ℕ) (z : ℤ) (out : List (ℕ × ℤ)) → z ≢ pos 0 → InRange z → IsPushed column z out (out ++ (column, z) ∷ [])
pushed column z out n f = record {
  value = λ c. at-last out column z c;
  sparse = λ s. IsSparse-last 0 column out column (suc column) z s (omega arith) (omega arith) (omega arith) n f;
}

pub not_pushed : (column : ℕ) (z : ℤ) (out : List (ℕ × ℤ)) → z ≡ pos 0 → IsPushed column z out out
not_pushed column z out e = record {
  value = λ c. sym (ap (λ w. at out c +ℤ only (column == c) w) e ∙ nothing (column == c) (at out c));
  sparse = λ s. IsSparse-high 0 column (suc column) out s (omega arith);
}
  where
    nothing : (t : Bool) (w : ℤ) → w +ℤ only t (pos 0) ≡ w
    nothing true w = omega (arith, ints)
    nothing false w = omega (arith, ints)

-- one column further
pub IsMerge-column : (columns : ℕ) (a b : ℤ) (xs ys : List (ℕ × ℤ)) (column : ℕ) (ls rs out more : List (ℕ × ℤ)) (next : ℕ)
    → IsMerge columns a b xs ys column ls rs out
    → all_fit (less_formed a b (taken_number column ls) (taken_number column rs)) ≡ true
    → IsPushed column (less a b (taken_number column ls) (taken_number column rs)) out more
    → suc column ≤ next → next ≤ head_column columns (taken_rest column ls) → next ≤ head_column columns (taken_rest column rs)
    → IsMerge columns a b xs ys next (taken_rest column ls) (taken_rest column rs) more
IsMerge-column columns a b xs ys column ls rs out more next m fit p n h k =
    let x : ℤ = taken_number column ls in
    let y : ℤ = taken_number column rs in
    let l : IsSparse next columns (taken_rest column ls) = IsSparse-head (suc column) next columns (taken_rest column ls) (IsSparse-taken column columns ls m.left) h in
    let r : IsSparse next columns (taken_rest column rs) = IsSparse-head (suc column) next columns (taken_rest column rs) (IsSparse-taken column columns rs m.right) k in
    record {
      left = l;
      right = r;
      written = IsSparse-high 0 (suc column) next more (p.sparse m.written) n;
      left_same = λ c g. m.left_same c (omega arith) ∙ at-taken column ls c ∙ later c x (at (taken_rest column ls) c) (omega arith);
      right_same = λ c g. m.right_same c (omega arith) ∙ at-taken column rs c ∙ later c y (at (taken_rest column rs) c) (omega arith);
      value = λ c.
          let u : ℤ = at (taken_rest column ls) c in
          let v : ℤ = at (taken_rest column rs) c in
          ap (λ w. w +ℤ less a b u v) (p.value c)
          ∙ moved (at out c) (only (column == c) (less a b x y)) (less a b u v)
          ∙ ap (λ w. at out c +ℤ (w +ℤ less a b u v)) (sym (only-less (column == c) a b x y))
          ∙ ap (λ w. at out c +ℤ w) (sym (less-sum a b (only (column == c) x) (only (column == c) y) u v))
          ∙ ap₂ (λ s t. at out c +ℤ less a b s t) (sym (at-taken column ls c)) (sym (at-taken column rs c))
          ∙ m.value c;
      fits = λ c g. elim (cases_lt c column) [
        | inl lt ↦ m.fits c lt
        | inr le ↦ elim (cases_lt column c) [
          | inl gt ↦
              zeros_fit_at a b (at xs c) (at ys c)
              (m.left_same c le ∙ at-taken column ls c ∙ later c x (at (taken_rest column ls) c) gt ∙ at-before next columns (taken_rest column ls) c l g)
              (m.right_same c le ∙ at-taken column rs c ∙ later c y (at (taken_rest column rs) c) gt ∙ at-before next columns (taken_rest column rs) c r g)
          | inr ge ↦ let same : c ≡ column = omega arith in here c same
        ]
      ];
    }
  where
    later : (c : ℕ) (x z : ℤ) → column < c → only (column == c) x +ℤ z ≡ z
    later c x z gt = ap (λ t. only t x +ℤ z) (no c gt) ∙ zero-+ z
      where
        no : (c : ℕ) → column < c → (column == c) ≡ false
        no c gt = eq_no column c (λ q. omega arith)

    at_left : IsMerge columns a b xs ys column ls rs out → at xs column ≡ taken_number column ls
    at_left w = w.left_same column (omega arith) ∙ taken_number-at column columns ls w.left

    at_right : IsMerge columns a b xs ys column ls rs out → at ys column ≡ taken_number column rs
    at_right w = w.right_same column (omega arith) ∙ taken_number-at column columns rs w.right

    here : (c : ℕ) → c ≡ column → all_fit (less_formed a b (at xs c) (at ys c)) ≡ true
    here c same =
        ap (λ d. all_fit (less_formed a b (at xs d) (at ys d))) same
        ∙ ap₂ (λ u v. all_fit (less_formed a b u v)) (at_left m) (at_right m)
        ∙ fit

-- the numbers taken are those of the column
pub IsMerge-taken : (columns : ℕ) (a b : ℤ) (xs ys : List (ℕ × ℤ)) (column : ℕ) (ls rs out : List (ℕ × ℤ)) → IsMerge columns a b xs ys column ls rs out
    → all_fit (less_formed a b (at xs column) (at ys column)) ≡ all_fit (less_formed a b (taken_number column ls) (taken_number column rs))
IsMerge-taken columns a b xs ys column ls rs out m =
    ap₂ (λ u v. all_fit (less_formed a b u v)) (m.left_same column (omega arith) ∙ taken_number-at column columns ls m.left) (m.right_same column (omega arith) ∙ taken_number-at column columns rs m.right)

-- all columns are done
pub IsMerge-value : (columns : ℕ) (a b : ℤ) (xs ys : List (ℕ × ℤ)) (column : ℕ) (ls rs out : List (ℕ × ℤ)) → IsMerge columns a b xs ys column ls rs out → columns ≤ column → (c : ℕ) → at out c ≡ less a b (at xs c) (at ys c)
IsMerge-value columns a b xs ys column ls rs out m h c =
    sym (ap (λ w. at out c +ℤ w) (ap₂ (less a b) (at-none column columns ls c m.left h) (at-none column columns rs c m.right h) ∙ less-zeros a b) ∙ add_zero (at out c)) ∙ m.value c
  where
    add_zero : (z : ℤ) → z +ℤ pos 0 ≡ z
    add_zero z = omega (arith, ints)

pub IsMerge-fits : (columns : ℕ) (a b : ℤ) (xs ys : List (ℕ × ℤ)) (column : ℕ) (ls rs out : List (ℕ × ℤ)) → IsMerge columns a b xs ys column ls rs out → columns ≤ column → (c : ℕ) → all_fit (less_formed a b (at xs c) (at ys c)) ≡ true
IsMerge-fits columns a b xs ys column ls rs out m h c =
    elim (cases_lt c column) [
      | inl lt ↦ m.fits c lt
      | inr le ↦ zeros_fit_at a b (at xs c) (at ys c) (m.left_same c le ∙ at-none column columns ls c m.left h) (m.right_same c le ∙ at-none column columns rs c m.right h)
    ]
