-- The lists that loops make, one element after another.
use Rattle.int_tableau.proofs.Common.{◌≡◌, ℕ, suc, ◌+◌, ◌-◌, ◌<◌, ◌≤◌, ℤ, pos, Bool, true, false, List, [], ◌∷◌, ◌++◌, length, get_or, map, drop, arith, sym, ap, ◌∙◌, append-nil, if◌then◌else◌, int_lt, ◌||◌, append_assoc, at_drop_all, Row, Sense, Var, value_at, var_cmp, drop_at, any_negative, as_most, counted_from, row_lines, width_of, Line, inequality_of, is_split, after_columns, column_entries, in_columns_of, placed}

-- what a read after the last variable gives
abbrev pub no_variable : Var
no_variable = record { kind = 0; index = record { region = 0; other = 0; slice = 0; tech = 0; fuel = 0; emission = 0; mode = 0; year = 0 } }

-- what is made so far, one more, and the rest
append_one : {X : Type 0} (now more : List X) (one rest : List X) → more ≡ now ++ one → now ++ (one ++ rest) ≡ more ++ rest
append_one now more one rest h = sym (append_assoc now one rest) ∙ ap (λ zs. zs ++ rest) (sym h)

-- ---- right sides

pub negative-here : (rows : List Row) (i : ℕ) (row : Row) → i < length rows → row ≡ get_or rows i row → int_lt (as_most row.sense row.rhs) (pos 0) ≡ true → any_negative (map inequality_of (drop i rows)) ≡ true
negative-here rows i row h e t = ap (λ rs. any_negative (map inequality_of rs)) (drop_at rows i row h e) ∙ ap (λ b. b || any_negative (map inequality_of (drop (i + 1) rows))) t

pub negative-later : (rows : List Row) (i : ℕ) (row : Row) → i < length rows → row ≡ get_or rows i row → int_lt (as_most row.sense row.rhs) (pos 0) ≡ false → any_negative (map inequality_of (drop i rows)) ≡ any_negative (map inequality_of (drop (i + 1) rows))
negative-later rows i row h e t = ap (λ rs. any_negative (map inequality_of rs)) (drop_at rows i row h e) ∙ ap (λ b. b || any_negative (map inequality_of (drop (i + 1) rows))) t

pub negative-none : (rows : List Row) (i : ℕ) → length rows ≤ i → any_negative (map inequality_of (drop i rows)) ≡ false
negative-none rows i h = at_drop_all (λ rs. any_negative (map inequality_of rs)) rows i h

-- ---- places

pub placed-step : (vs : List Var) (i c : ℕ) (v : Var) (now more : List (Var × ℕ)) → i < length vs → v ≡ get_or vs i v → more ≡ now ++ (v, c) ∷ [] → now ++ placed c (drop i vs) ≡ more ++ placed (after_columns (is_split v) c) (drop (i + 1) vs)
placed-step vs i c v now more h e p =
    ap (λ ws. now ++ placed c ws) (drop_at vs i v h e) ∙ append_one now more ((v, c) ∷ []) (placed (after_columns (is_split v) c) (drop (i + 1) vs)) p

pub placed-end : (vs : List Var) (i c : ℕ) (now : List (Var × ℕ)) → length vs ≤ i → now ++ placed c (drop i vs) ≡ now
placed-end vs i c now h = at_drop_all (λ ws. now ++ placed c ws) vs i h ∙ append-nil now

pub width-step : (vs : List Var) (i c : ℕ) (v : Var) → i < length vs → v ≡ get_or vs i v → c + width_of (drop i vs) ≡ after_columns (is_split v) c + width_of (drop (i + 1) vs)
width-step vs i c v h e = ap (λ ws. c + width_of ws) (drop_at vs i v h e) ∙ cases (is_split v)
  where
    cases : (s : Bool) → c + (if s then suc (suc (width_of (drop (i + 1) vs))) else suc (width_of (drop (i + 1) vs))) ≡ after_columns s c + width_of (drop (i + 1) vs)
    cases true = omega arith
    cases false = omega arith

pub width-end : (vs : List Var) (i c : ℕ) → length vs ≤ i → c + width_of (drop i vs) ≡ c
width-end vs i c h = at_drop_all (λ ws. c + width_of ws) vs i h ∙ omega arith

-- ---- entries

pub entries-step : (s : Sense) (places : List (Var × ℕ)) (es : List (Var × ℤ)) (i : ℕ) (e : Var × ℤ) (now more : List (ℕ × ℤ)) → i < length es → e ≡ get_or es i e
    → more ≡ now ++ in_columns_of (is_split e.0) (as_most s e.1) (value_at var_cmp places e.0) → now ++ column_entries s places (drop i es) ≡ more ++ column_entries s places (drop (i + 1) es)
entries-step s places es i e now more h k p =
    ap (λ fs. now ++ column_entries s places fs) (drop_at es i e h k)
    ∙ append_one now more (in_columns_of (is_split e.0) (as_most s e.1) (value_at var_cmp places e.0)) (column_entries s places (drop (i + 1) es)) p

pub entries-end : (s : Sense) (places : List (Var × ℕ)) (es : List (Var × ℤ)) (i : ℕ) (now : List (ℕ × ℤ)) → length es ≤ i → now ++ column_entries s places (drop i es) ≡ now
entries-end s places es i now h = at_drop_all (λ fs. now ++ column_entries s places fs) es i h ∙ append-nil now

-- ---- lines

pub lines-end : (vs : List Var) (there : Bool) (n : ℕ) (rows : List Row) (i : ℕ) (now : List Line) → length rows ≤ i → now ++ row_lines vs there n i (map inequality_of (drop i rows)) ≡ now
lines-end vs there n rows i now h = at_drop_all (λ rs. now ++ row_lines vs there n i (map inequality_of rs)) rows i h ∙ append-nil now

-- ---- slacks

pub slacks-step : (w n i : ℕ) (now more : List ℕ) → i < n → more ≡ now ++ (w + i) ∷ [] → now ++ counted_from (w + i) (n - i) ≡ more ++ counted_from (w + (i + 1)) (n - (i + 1))
slacks-step w n i now more h p =
    ap (λ k. now ++ counted_from (w + i) k) left
    ∙ append_one now more ((w + i) ∷ []) (counted_from (suc (w + i)) (n - (i + 1))) p
    ∙ ap (λ k. more ++ counted_from k (n - (i + 1))) next
  where
    left : n - i ≡ suc (n - (i + 1))
    left = omega arith

    next : suc (w + i) ≡ w + (i + 1)
    next = omega arith

pub slacks-end : (w n i : ℕ) (now : List ℕ) → n ≤ i → now ++ counted_from (w + i) (n - i) ≡ now
slacks-end w n i now h = ap (λ k. now ++ counted_from (w + i) k) none ∙ append-nil now
  where
    none : n - i ≡ 0
    none = omega arith
