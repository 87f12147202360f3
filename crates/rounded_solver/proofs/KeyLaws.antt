-- Keys of entries that are made one after another.
use Rattle.std.proofs.Common.{◌≡◌, ◌++◌, ◌+◌, ◌<◌, ◌≤◌, ℕ, true, List, [], ◌∷◌, drop, get_or, length, map, refl, sym, ap, subst, ◌∙◌}
use Rattle.std.specs.Prelude.{Contains}
use Rattle.std.proofs.lemmas.List.{append-nil, drop_more, at_drop_all}
use Rattle.exact_num.specs.declared.fraction.Frac.{Frac}
use Rattle.exact_num.specs.Rational.{Rational}
use Rattle.row_core.specs.declared.Row.{Row}
use Rattle.row_core.specs.declared.RowName.{RowName}
use Rattle.row_core.specs.declared.Var.{Var}
use Rattle.row_core.specs.Numbers.{ascends, keys_of}
use Rattle.row_core.specs.Order.{row_name_cmp}
use Rattle.row_core.specs.Plans.{valued}
use Rattle.row_core.specs.RowLists.{names_of}
use Rattle.certified_answers.specs.Answers.{AreNamedIn}

-- where a list has no more, it reads as this
abbrev pub no_variable : Var
no_variable = record { kind = 0; index = record { region = 0; other = 0; slice = 0; tech = 0; fuel = 0; emission = 0; mode = 0; year = 0 } }

-- the same keys, whatever stands at them
pub keys-valued : (es : List (Var × Frac)) → keys_of (map valued es) ≡ keys_of es
keys-valued [] = refl
keys-valued (e ∷ es) = ap {B = List Var} (λ ks. e.0 ∷ ks) (keys-valued es)

keys-push : (es : List (Var × Frac)) (v : Var) (x : Frac) (rest : List Var) → keys_of (es ++ (v, x) ∷ []) ++ rest ≡ keys_of es ++ v ∷ rest
keys-push [] v x rest = refl
keys-push (e ∷ es) v x rest = ap {B = List Var} (λ ks. e.0 ∷ ks) (keys-push es v x rest)

-- one column more
pub keys-next : (es new : List (Var × Frac)) (vs : List Var) (i : ℕ) (d v : Var) (x : Frac) → new ≡ es ++ (v, x) ∷ [] → v ≡ get_or vs i d → i < length vs → keys_of es ++ drop i vs ≡ vs → keys_of new ++ drop (i + 1) vs ≡ vs
keys-next es new vs i d v x push is inside h =
    ap (λ (ns : List (Var × Frac)). keys_of ns ++ drop (i + 1) vs) push
    ∙ keys-push es v x (drop (i + 1) vs)
    ∙ ap (λ (w : Var). keys_of es ++ w ∷ drop (i + 1) vs) is
    ∙ ap (λ (ws : List Var). keys_of es ++ ws) (sym (drop_more vs i d inside))
    ∙ h

-- all columns
pub keys-end : (es : List (Var × Frac)) (vs : List Var) (i : ℕ) → length vs ≤ i → keys_of es ++ drop i vs ≡ vs → keys_of es ≡ vs
keys-end es vs i end h = sym (append-nil (keys_of es)) ∙ sym (at_drop_all (λ (ws : List Var). keys_of es ++ ws) vs i end) ∙ h

-- ---- the same for the names of rows

pub names-valued : (es : List (RowName × Frac)) → keys_of (map valued es) ≡ keys_of es
names-valued [] = refl
names-valued (e ∷ es) = ap {B = List RowName} (λ ks. e.0 ∷ ks) (names-valued es)

names-push : (es : List (RowName × Frac)) (name : RowName) (x : Frac) (rest : List RowName) → keys_of (es ++ (name, x) ∷ []) ++ rest ≡ keys_of es ++ name ∷ rest
names-push [] name x rest = refl
names-push (e ∷ es) name x rest = ap {B = List RowName} (λ ks. e.0 ∷ ks) (names-push es name x rest)

-- one row more
pub names-next : (es new : List (RowName × Frac)) (rows : List Row) (i : ℕ) (row : Row) (x : Frac) → i < length rows → row ≡ get_or rows i row → new ≡ es ++ (row.name, x) ∷ [] → keys_of es ++ names_of (drop i rows) ≡ names_of rows
    → keys_of new ++ names_of (drop (i + 1) rows) ≡ names_of rows
names-next es new rows i row x inside is push h =
    ap (λ (ns : List (RowName × Frac)). keys_of ns ++ names_of (drop (i + 1) rows)) push
    ∙ names-push es row.name x (names_of (drop (i + 1) rows))
    ∙ ap (λ (r : Row). keys_of es ++ r.name ∷ names_of (drop (i + 1) rows)) is
    ∙ ap (λ (rs : List Row). keys_of es ++ names_of rs) (sym (drop_more rows i row inside))
    ∙ h

-- all rows
pub names-end : (es : List (RowName × Frac)) (rows : List Row) (i : ℕ) → length rows ≤ i → keys_of es ++ names_of (drop i rows) ≡ names_of rows → keys_of es ≡ names_of rows
names-end es rows i end h = sym (append-nil (keys_of es)) ∙ sym (at_drop_all (λ (rs : List Row). keys_of es ++ names_of rs) rows i end) ∙ h

-- multipliers of all rows have their names
pub all-named : (rows : List Row) (made : List (RowName × Rational)) → keys_of made ≡ names_of rows → ascends row_name_cmp (names_of rows) ≡ true → AreNamedIn rows made
all-named rows made is up = record {
  ascending = subst (λ (names : List RowName). ascends row_name_cmp names ≡ true) (sym is) up;
  among = λ name h. subst (λ (names : List RowName). Contains names name) is h;
}
