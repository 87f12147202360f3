-- Two lists of entries side by side, by the columns of their first entries.
use Rattle.int_tableau.proofs.Common.{◌≡◌, ℕ, suc, ◌+◌, ◌<◌, ◌≤◌, ℤ, pos, true, List, [], ◌∷◌, length, get_or, drop, refl, sym, ap, ap₂, ◌∙◌, subst, arith, inl, inr, if◌then◌else◌, cases_lt, drop_more, at_drop_all, all_fit, less, less_formed, only, at, IsSparse, head_column, taken_number, taken_rest, IsPushed}
use Rattle.int_tableau.proofs.DivisionLaws.{no_entry}
use Rattle.int_tableau.proofs.EntryLaws.{eq_no, eq_yes, at-before, IsSparse-head, IsSparse-high, IsSparse-taken, head_column-from}
use Rattle.int_tableau.proofs.MergeLaws.{IsMerge, IsMerge-column, IsMerge-value, IsMerge-fits, zeros_fit_at}

-- what is before some column is written, and what is from it on is left
pub record IsMerging (n : ℕ) (a b : ℤ) (xs ys ls rs out : List (ℕ × ℤ)) : Type 0 where
  pub column : ℕ
  pub within : column ≤ n
  pub merge : IsMerge n a b xs ys column ls rs out

-- the column may be any up to those of the first entries
raised : (n : ℕ) (a b : ℤ) (xs ys : List (ℕ × ℤ)) (c d : ℕ) (ls rs out : List (ℕ × ℤ)) → IsMerge n a b xs ys c ls rs out → c ≤ d → d ≤ head_column n ls → d ≤ head_column n rs → IsMerge n a b xs ys d ls rs out
raised n a b xs ys c d ls rs out m h k l =
    let left : IsSparse d n ls = IsSparse-head c d n ls m.left k in
    let right : IsSparse d n rs = IsSparse-head c d n rs m.right l in
    record {
      left = left;
      right = right;
      written = IsSparse-high 0 c d out m.written h;
      left_same = λ e g. m.left_same e (omega arith);
      right_same = λ e g. m.right_same e (omega arith);
      value = m.value;
      fits = λ e g. elim (cases_lt e c) [
        | inl lt ↦ m.fits e lt
        | inr le ↦ zeros_fit_at a b (at xs e) (at ys e) (m.left_same e le ∙ at-before d n ls e left g) (m.right_same e le ∙ at-before d n rs e right g)
      ];
    }

-- one column further
IsMerging-column : (n : ℕ) (a b : ℤ) (xs ys ls rs out more : List (ℕ × ℤ)) (d : ℕ) (m : IsMerging n a b xs ys ls rs out) → m.column ≤ d → d < n → d ≤ head_column n ls → d ≤ head_column n rs
    → all_fit (less_formed a b (taken_number d ls) (taken_number d rs)) ≡ true
    → IsPushed d (less a b (taken_number d ls) (taken_number d rs)) out more
    → IsMerging n a b xs ys (taken_rest d ls) (taken_rest d rs) more
IsMerging-column n a b xs ys ls rs out more d m le below h k fit pushed =
    let now : IsMerge n a b xs ys d ls rs out = raised n a b xs ys m.column d ls rs out m.merge le h k in
    record {
      column = suc d;
      within = omega arith;
      merge = IsMerge-column n a b xs ys d ls rs out more (suc d) now fit pushed (omega arith)
          (head_column-from (suc d) n (taken_rest d ls) (IsSparse-taken d n ls now.left) (omega arith))
          (head_column-from (suc d) n (taken_rest d rs) (IsSparse-taken d n rs now.right) (omega arith));
    }

-- the first entry of what is left, where there is one
pub head_there : (xs : List (ℕ × ℤ)) (i n d : ℕ) → d ≡ head_column n (drop i xs) → d < n → i < length xs
head_there xs i n d e h =
    elim (cases_lt i (length xs)) [
      | inl lt ↦ lt
      | inr le ↦ let none : head_column n (drop i xs) ≡ n = at_drop_all (λ es. head_column n es) xs i le in absurd (omega arith)
    ]

pub head_number : (xs : List (ℕ × ℤ)) (i n d : ℕ) → d ≡ head_column n (drop i xs) → i < length xs → taken_number d (drop i xs) ≡ (get_or xs i no_entry).1
head_number xs i n d e h =
    let whole : drop i xs ≡ get_or xs i no_entry ∷ drop (i + 1) xs = drop_more xs i no_entry h in
    let same : (get_or xs i no_entry).0 ≡ d = sym (e ∙ ap (λ es. head_column n es) whole) in
    ap (λ es. taken_number d es) whole ∙ ap (λ t. only t (get_or xs i no_entry).1) (eq_yes (get_or xs i no_entry).0 d same)

pub head_rest : (xs : List (ℕ × ℤ)) (i n d : ℕ) → d ≡ head_column n (drop i xs) → i < length xs → taken_rest d (drop i xs) ≡ drop (i + 1) xs
head_rest xs i n d e h =
    let whole : drop i xs ≡ get_or xs i no_entry ∷ drop (i + 1) xs = drop_more xs i no_entry h in
    let same : (get_or xs i no_entry).0 ≡ d = sym (e ∙ ap (λ es. head_column n es) whole) in
    ap (λ es. taken_rest d es) whole
    ∙ ap (λ t. if t then drop (i + 1) xs else (get_or xs i no_entry ∷ drop (i + 1) xs)) (eq_yes (get_or xs i no_entry).0 d same)

-- a later entry is left
pub later_number : (es : List (ℕ × ℤ)) (n d : ℕ) → d < head_column n es → taken_number d es ≡ pos 0
later_number [] n d h = refl
later_number (e ∷ es) n d h = ap (λ t. only t e.1) (eq_no e.0 d (λ q. omega arith))

pub later_rest : (es : List (ℕ × ℤ)) (n d : ℕ) → d < head_column n es → taken_rest d es ≡ es
later_rest [] n d h = refl
later_rest (e ∷ es) n d h = ap (λ t. if t then es else (e ∷ es)) (eq_no e.0 d (λ q. omega arith))

-- both lists have their next entry in column d, or only one of them
pub IsMerging-both : (n : ℕ) (a b : ℤ) (xs ys : List (ℕ × ℤ)) (i j : ℕ) (out more : List (ℕ × ℤ)) (d : ℕ) → IsMerging n a b xs ys (drop i xs) (drop j ys) out
    → d ≡ head_column n (drop i xs) → d ≡ head_column n (drop j ys) → d < n
    → all_fit (less_formed a b (get_or xs i no_entry).1 (get_or ys j no_entry).1) ≡ true
    → IsPushed d (less a b (get_or xs i no_entry).1 (get_or ys j no_entry).1) out more
    → IsMerging n a b xs ys (drop (i + 1) xs) (drop (j + 1) ys) more
IsMerging-both n a b xs ys i j out more d m e f below fit pushed =
    let here : i < length xs = head_there xs i n d e below in
    let there : j < length ys = head_there ys j n d f below in
    let x : taken_number d (drop i xs) ≡ (get_or xs i no_entry).1 = head_number xs i n d e here in
    let y : taken_number d (drop j ys) ≡ (get_or ys j no_entry).1 = head_number ys j n d f there in
    let from : m.column ≤ head_column n (drop i xs) = head_column-from m.column n (drop i xs) m.merge.left m.within in
    let step : IsMerging n a b xs ys (taken_rest d (drop i xs)) (taken_rest d (drop j ys)) more =
    IsMerging-column n a b xs ys (drop i xs) (drop j ys) out more d m (omega arith) below (omega arith) (omega arith)
    (ap₂ (λ s t. all_fit (less_formed a b s t)) x y ∙ fit)
    (subst (λ z. IsPushed d z out more) (sym (ap₂ (less a b) x y)) pushed) in
    subst (λ ls. IsMerging n a b xs ys ls (drop (j + 1) ys) more) (head_rest xs i n d e here)
    (subst (λ rs. IsMerging n a b xs ys (taken_rest d (drop i xs)) rs more) (head_rest ys j n d f there) step)

pub IsMerging-left : (n : ℕ) (a b : ℤ) (xs ys : List (ℕ × ℤ)) (i j : ℕ) (out more : List (ℕ × ℤ)) (d : ℕ) → IsMerging n a b xs ys (drop i xs) (drop j ys) out
    → d ≡ head_column n (drop i xs) → d < head_column n (drop j ys) → d < n
    → all_fit (less_formed a b (get_or xs i no_entry).1 (pos 0)) ≡ true
    → IsPushed d (less a b (get_or xs i no_entry).1 (pos 0)) out more
    → IsMerging n a b xs ys (drop (i + 1) xs) (drop j ys) more
IsMerging-left n a b xs ys i j out more d m e f below fit pushed =
    let here : i < length xs = head_there xs i n d e below in
    let x : taken_number d (drop i xs) ≡ (get_or xs i no_entry).1 = head_number xs i n d e here in
    let y : taken_number d (drop j ys) ≡ pos 0 = later_number (drop j ys) n d f in
    let from : m.column ≤ head_column n (drop i xs) = head_column-from m.column n (drop i xs) m.merge.left m.within in
    let step : IsMerging n a b xs ys (taken_rest d (drop i xs)) (taken_rest d (drop j ys)) more =
    IsMerging-column n a b xs ys (drop i xs) (drop j ys) out more d m (omega arith) below (omega arith) (omega arith)
    (ap₂ (λ s t. all_fit (less_formed a b s t)) x y ∙ fit)
    (subst (λ z. IsPushed d z out more) (sym (ap₂ (less a b) x y)) pushed) in
    subst (λ ls. IsMerging n a b xs ys ls (drop j ys) more) (head_rest xs i n d e here)
    (subst (λ rs. IsMerging n a b xs ys (taken_rest d (drop i xs)) rs more) (later_rest (drop j ys) n d f) step)

pub IsMerging-right : (n : ℕ) (a b : ℤ) (xs ys : List (ℕ × ℤ)) (i j : ℕ) (out more : List (ℕ × ℤ)) (d : ℕ) → IsMerging n a b xs ys (drop i xs) (drop j ys) out
    → d < head_column n (drop i xs) → d ≡ head_column n (drop j ys) → d < n
    → all_fit (less_formed a b (pos 0) (get_or ys j no_entry).1) ≡ true
    → IsPushed d (less a b (pos 0) (get_or ys j no_entry).1) out more
    → IsMerging n a b xs ys (drop i xs) (drop (j + 1) ys) more
IsMerging-right n a b xs ys i j out more d m e f below fit pushed =
    let there : j < length ys = head_there ys j n d f below in
    let x : taken_number d (drop i xs) ≡ pos 0 = later_number (drop i xs) n d e in
    let y : taken_number d (drop j ys) ≡ (get_or ys j no_entry).1 = head_number ys j n d f there in
    let from : m.column ≤ head_column n (drop j ys) = head_column-from m.column n (drop j ys) m.merge.right m.within in
    let step : IsMerging n a b xs ys (taken_rest d (drop i xs)) (taken_rest d (drop j ys)) more =
    IsMerging-column n a b xs ys (drop i xs) (drop j ys) out more d m (omega arith) below (omega arith) (omega arith)
    (ap₂ (λ s t. all_fit (less_formed a b s t)) x y ∙ fit)
    (subst (λ z. IsPushed d z out more) (sym (ap₂ (less a b) x y)) pushed) in
    subst (λ ls. IsMerging n a b xs ys ls (drop (j + 1) ys) more) (later_rest (drop i xs) n d e)
    (subst (λ rs. IsMerging n a b xs ys (taken_rest d (drop i xs)) rs more) (head_rest ys j n d f there) step)

-- all columns are done
pub IsMerging-sparse : (n : ℕ) (a b : ℤ) (xs ys ls rs out : List (ℕ × ℤ)) → IsMerging n a b xs ys ls rs out → IsSparse 0 n out
IsMerging-sparse n a b xs ys ls rs out m = IsSparse-high 0 m.column n out m.merge.written m.within

ended : (n : ℕ) (a b : ℤ) (xs ys ls rs out : List (ℕ × ℤ)) → IsMerging n a b xs ys ls rs out → n ≤ head_column n ls → n ≤ head_column n rs → IsMerge n a b xs ys n ls rs out
ended n a b xs ys ls rs out m h k = raised n a b xs ys m.column n ls rs out m.merge m.within h k

pub IsMerging-value : (n : ℕ) (a b : ℤ) (xs ys ls rs out : List (ℕ × ℤ)) → IsMerging n a b xs ys ls rs out → n ≤ head_column n ls → n ≤ head_column n rs → (c : ℕ) → at out c ≡ less a b (at xs c) (at ys c)
IsMerging-value n a b xs ys ls rs out m h k c = IsMerge-value n a b xs ys n ls rs out (ended n a b xs ys ls rs out m h k) (omega arith) c

pub IsMerging-fits : (n : ℕ) (a b : ℤ) (xs ys ls rs out : List (ℕ × ℤ)) → IsMerging n a b xs ys ls rs out → n ≤ head_column n ls → n ≤ head_column n rs → (c : ℕ) → all_fit (less_formed a b (at xs c) (at ys c)) ≡ true
IsMerging-fits n a b xs ys ls rs out m h k c = IsMerge-fits n a b xs ys n ls rs out (ended n a b xs ys ls rs out m h k) (omega arith) c
