-- Columns of rows, row by row and entry by entry.
use Rattle.variable_elimination.proofs.Common.{◌≡◌, cond, ℕ, zero, suc, ◌+◌, ◌<◌, ℤ, Bool, true, false, ◌||◌, List, [], ◌∷◌, ◌++◌, map, filter, length, get_or, take, refl, sym, ap, ◌∙◌, subst, arith, if◌then◌else◌, Option, Some, None, BTreeMap, get, both_true, is_eq, take_more, flat_map-cons, in_range, all_fit, all_fit-append, all_fit-cons, all_fit-nil, Row, RowName, Var, row_in_column, column_of, numbers_of, var_cmp, both_passed, row_fits, var_cmp_exact, items_of, cells_at, is_given, AreEmpty, IsNextEmpty, AreFollowed, HaveColumns, cell_in}
use Rattle.std.specs.Global.{Vec}
use Rattle.variable_elimination.proofs.LiftLaws.{alike}
use Rattle.variable_elimination.proofs.VariableLaws.{itself, turned}

abbrev Map : Type 0
Map = BTreeMap Var (Vec (RowName × ℤ))

append_nothing : (xs : List (RowName × ℤ)) → xs ++ [] ≡ xs
append_nothing [] = refl
append_nothing (x ∷ xs) = ap {B = List (RowName × ℤ)} (λ ws. x ∷ ws) (append_nothing xs)

append_assoc : (xs ys zs : List (RowName × ℤ)) → (xs ++ ys) ++ zs ≡ xs ++ (ys ++ zs)
append_assoc [] ys zs = refl
append_assoc (x ∷ xs) ys zs = ap {B = List (RowName × ℤ)} (λ ws. x ∷ ws) (append_assoc xs ys zs)

-- ---- places for columns

given-push : (xs : List (Option Var)) (o : Option Var) (v : Var) → is_given (xs ++ o ∷ []) v ≡ (is_given xs v || is_given (o ∷ []) v)
given-push [] o v = refl
given-push (None ∷ xs) o v = given-push xs o v
given-push (Some w ∷ xs) o v = ap (λ t. is_eq (var_cmp v w) || t) (given-push xs o v) ∙ assoc (is_eq (var_cmp v w)) (is_given xs v) (is_given (o ∷ []) v)
  where
    assoc : (a b c : Bool) → (a || (b || c)) ≡ ((a || b) || c)
    assoc true b c = refl
    assoc false b c = refl

pub AreEmpty-next : (xs : List (Option Var)) (o : Option Var) (m n : Map) → AreEmpty xs m → IsNextEmpty o m n → AreEmpty (xs ++ o ∷ []) n
AreEmpty-next xs o m n empty next v h = next v ∙ cases (is_given (o ∷ []) v) (is_given xs v) (sym (given-push xs o v) ∙ h) (empty v)
  where
    cases : (t u : Bool) → (u || t) ≡ true → (u ≡ true → cells_at m v ≡ Some []) → (if t then Some [] else cells_at m v) ≡ Some []
    cases true u k rest = refl
    cases false true k rest = rest refl
    cases false false k rest = absurd (cc k)

pub empty-take : (xs : List (Option Var)) (i : ℕ) (d : Option Var) (m n : Map) → i < length xs → AreEmpty (take i xs) m → IsNextEmpty (get_or xs i d) m n → AreEmpty (take (i + 1) xs) n
empty-take xs i d m n h empty next = subst (λ (ys : List (Option Var)). AreEmpty ys n) (sym (take_more xs i d h)) (AreEmpty-next (take i xs) (get_or xs i d) m n empty next)

pub empty-added : (w : Var) (old new : Map) (place : Vec (RowName × ℤ)) → place.items ≡ [] → ((v : Var) → get var_cmp new v ≡ cond (is_eq (var_cmp w v)) (Some place) (get var_cmp old v)) → IsNextEmpty (Some w) old new
empty-added w old new place none updates v = ap items_of (updates v) ∙ cases (is_eq (var_cmp w v)) (is_eq (var_cmp v w)) (turned w v)
  where
    cases : (t u : Bool) → t ≡ u → items_of (cond t (Some place) (get var_cmp old v)) ≡ (if (u || false) then Some [] else cells_at old v)
    cases true true is = ap Some none
    cases true false is = absurd (cc is)
    cases false true is = absurd (cc is)
    cases false false is = refl

pub given-at : (defs : List (Option Var)) (i : ℕ) (v : Var) → i < length defs → get_or defs i None ≡ Some v → is_given defs v ≡ true
given-at [] i v h e = absurd (omega arith)
given-at (None ∷ defs) zero v h e = absurd (cc e)
given-at (Some w ∷ defs) zero v h e = let same : w ≡ v = cc e in ap (λ u. is_eq (var_cmp v u) || is_given defs v) same ∙ ap (λ o. is_eq o || is_given defs v) (itself v)
given-at (None ∷ defs) (suc i) v h e = given-at defs i v (omega arith) e
given-at (Some w ∷ defs) (suc i) v h e = ap (λ t. is_eq (var_cmp v w) || t) (given-at defs i v (omega arith) e) ∙ or_true (is_eq (var_cmp v w))
  where
    or_true : (a : Bool) → (a || true) ≡ true
    or_true true = refl
    or_true false = refl

-- ---- one row more

column-push : (rows : List Row) (row : Row) (v : Var) → column_of (rows ++ row ∷ []) v ≡ column_of rows v ++ row_in_column v row
column-push [] row v = flat_map-cons (row_in_column v) row [] ∙ append_nothing (row_in_column v row)
column-push (first ∷ rows) row v =
    flat_map-cons (row_in_column v) first (rows ++ row ∷ [])
    ∙ ap (λ cs. row_in_column v first ++ cs) (column-push rows row v)
    ∙ sym (append_assoc (row_in_column v first) (column_of rows v) (row_in_column v row))
    ∙ ap (λ cs. cs ++ row_in_column v row) (sym (flat_map-cons (row_in_column v) first rows))

pub columns-start : (defs : List (Option Var)) (m : Map) → AreEmpty defs m → HaveColumns defs [] m
columns-start defs m empty v h = empty v h

pub columns-take : (defs : List (Option Var)) (rows : List Row) (i : ℕ) (row : Row) (m n : Map) → i < length rows → row ≡ get_or rows i row → HaveColumns defs (take i rows) m → AreFollowed (λ v. row_in_column v row) m n → HaveColumns defs (take (i + 1) rows) n
columns-take defs rows i row m n h is have followed v k =
    followed v (column_of (take i rows) v) (have v k)
    ∙ ap Some (sym (column-push (take i rows) row v) ∙ ap (λ (rs : List Row). column_of rs v) (ap (λ (r : Row). take i rows ++ r ∷ []) is ∙ sym (take_more rows i row h)))

-- ---- one entry more

abbrev cells : RowName → Var → List (Var × ℤ) → List (RowName × ℤ)
cells name v es = map {B = RowName × ℤ} (λ e. (name, e.1)) (filter (λ e. is_eq (var_cmp e.0 v)) es)

cells-push : (name : RowName) (v : Var) (es : List (Var × ℤ)) (e : Var × ℤ) → cells name v (es ++ e ∷ []) ≡ cells name v es ++ cell_in e.0 name e.1 v
cells-push name v [] e = cases (is_eq (var_cmp e.0 v))
  where
    cases : (t : Bool) → map {B = RowName × ℤ} (λ f. (name, f.1)) (if t then (e ∷ []) else []) ≡ (if t then ((name, e.1) ∷ []) else [])
    cases true = refl
    cases false = refl
cells-push name v (d ∷ es) e = cases (is_eq (var_cmp d.0 v)) (cells-push name v es e)
  where
    cases : (t : Bool) → cells name v (es ++ e ∷ []) ≡ cells name v es ++ cell_in e.0 name e.1 v
        → map {B = RowName × ℤ} (λ f. (name, f.1)) (if t then (d ∷ filter (λ f. is_eq (var_cmp f.0 v)) (es ++ e ∷ [])) else filter (λ f. is_eq (var_cmp f.0 v)) (es ++ e ∷ []))
        ≡ map {B = RowName × ℤ} (λ f. (name, f.1)) (if t then (d ∷ filter (λ f. is_eq (var_cmp f.0 v)) es) else filter (λ f. is_eq (var_cmp f.0 v)) es) ++ cell_in e.0 name e.1 v
    cases true rest = ap {B = List (RowName × ℤ)} (λ cs. (name, d.1) ∷ cs) rest
    cases false rest = rest

-- the entries so far are followed by one more
abbrev pub AreCells : RowName → List (Var × ℤ) → Map → Map → Type 0
AreCells name es old new = AreFollowed (λ v. cells name v es) old new

pub cells-start : (name : RowName) (m : Map) → AreCells name [] m m
cells-start name m v so_far h = h ∙ ap Some (sym (append_nothing so_far))

cells-take : (name : RowName) (es : List (Var × ℤ)) (i : ℕ) (d e : Var × ℤ) (l m n : Map) → i < length es → e ≡ get_or es i d → AreCells name (take i es) l m → AreFollowed (cell_in e.0 name e.1) m n → AreCells name (take (i + 1) es) l n
cells-take name es i d e l m n h is so_far one v before k =
    one v (before ++ cells name v (take i es)) (so_far v before k)
    ∙ ap Some (append_assoc before (cells name v (take i es)) (cell_in e.0 name e.1 v)
    ∙ ap (λ cs. before ++ cs) (sym (cells-push name v (take i es) e) ∙ ap (cells name v) (ap (λ f. take i es ++ f ∷ []) is ∙ sym (take_more es i d h))))

pub cells-next : (name : RowName) (es xs : List (Var × ℤ)) (i : ℕ) (d : Var × ℤ) (l m n : Map) → xs ≡ es → i < length xs → AreCells name (take i es) l m → AreFollowed (cell_in (get_or xs i d).0 name (get_or xs i d).1) m n
    → AreCells name (take (i + 1) es) l n
cells-next name es xs i d l m n same h so_far one =
    cells-take name es i d (get_or xs i d) l m n (subst (λ (ys : List (Var × ℤ)). i < length ys) same h) (ap (λ (ys : List (Var × ℤ)). get_or ys i d) same) so_far one

-- where there is a column for it, the entry is put at its end
pub cell-added : (w : Var) (name : RowName) (number : ℤ) (old new : Map) (column made : Vec (RowName × ℤ)) → get var_cmp old w ≡ Some column → made.items ≡ column.items ++ (name, number) ∷ []
    → ((v : Var) → get var_cmp new v ≡ cond (is_eq (var_cmp w v)) (Some made) (get var_cmp old v)) → AreFollowed (cell_in w name number) old new
cell-added w name number old new column made there items updates v so_far h = ap items_of (updates v) ∙ cases (is_eq (var_cmp w v)) refl
  where
    before : is_eq (var_cmp w v) ≡ true → column.items ≡ so_far
    before is =
        let same : w ≡ v = var_cmp_exact w v (alike (var_cmp w v) is) in
        let all : Some column.items ≡ Some so_far = sym (ap items_of (ap (get var_cmp old) (sym same) ∙ there)) ∙ h in
        cc all

    cases : (t : Bool) → is_eq (var_cmp w v) ≡ t → items_of (cond t (Some made) (get var_cmp old v)) ≡ Some (so_far ++ (if t then ((name, number) ∷ []) else []))
    cases true is = ap Some (items ∙ ap (λ xs. xs ++ (name, number) ∷ []) (before is))
    cases false is = h ∙ ap Some (sym (append_nothing so_far))

-- where there is none, nothing changes
pub cell-left : (w : Var) (name : RowName) (number : ℤ) (old new : Map) → get var_cmp old w ≡ None → new ≡ old → AreFollowed (cell_in w name number) old new
cell-left w name number old new none same v so_far h = ap (λ (m : Map). cells_at m v) same ∙ cases (is_eq (var_cmp w v)) refl
  where
    cases : (t : Bool) → is_eq (var_cmp w v) ≡ t → cells_at old v ≡ Some (so_far ++ (if t then ((name, number) ∷ []) else []))
    cases true is =
        let there : w ≡ v = var_cmp_exact w v (alike (var_cmp w v) is) in
        let nothing : None ≡ Some so_far = sym (ap items_of (ap (get var_cmp old) (sym there) ∙ none)) ∙ h in
        absurd (cc nothing)
    cases false is = h ∙ ap Some (sym (append_nothing so_far))

-- ---- the numbers of a column fit

cells-fit : (name : RowName) (v : Var) (es : List (Var × ℤ)) → all_fit (numbers_of es) ≡ true → all_fit (numbers_of (cells name v es)) ≡ true
cells-fit name v [] h = all_fit-nil
cells-fit name v (e ∷ es) h = cases (is_eq (var_cmp e.0 v)) (cells-fit name v es parts.1)
  where
    parts : (in_range e.1 ≡ true) × (all_fit (numbers_of es) ≡ true)
    parts = both_passed (in_range e.1) (all_fit (numbers_of es)) (sym (all_fit-cons e.1 (numbers_of es)) ∙ h)

    cases : (t : Bool) → all_fit (numbers_of (cells name v es)) ≡ true → all_fit (numbers_of (map {B = RowName × ℤ} (λ f. (name, f.1)) (if t then (e ∷ filter (λ f. is_eq (var_cmp f.0 v)) es) else filter (λ f. is_eq (var_cmp f.0 v)) es))) ≡ true
    cases true rest = all_fit-cons e.1 (numbers_of (cells name v es)) ∙ both_true parts.0 rest
    cases false rest = rest

numbers-append : (xs ys : List (RowName × ℤ)) → numbers_of (xs ++ ys) ≡ numbers_of xs ++ numbers_of ys
numbers-append [] ys = refl
numbers-append (x ∷ xs) ys = ap {B = List ℤ} (λ zs. x.1 ∷ zs) (numbers-append xs ys)

pub column-fits : (rows : List Row) (v : Var) → all_fit (numbers_of (column_of rows v)) ≡ true
column-fits [] v = all_fit-nil
column-fits (row ∷ rows) v =
    ap (λ cs. all_fit (numbers_of cs)) (flat_map-cons (row_in_column v) row rows)
    ∙ ap all_fit (numbers-append (row_in_column v row) (column_of rows v))
    ∙ all_fit-append (numbers_of (row_in_column v row)) (numbers_of (column_of rows v))
    ∙ both_true (cells-fit row.name v row.entries.items (row_fits row)) (column-fits rows v)
