-- What a map of rows has at a variable, as forms.
use Rattle.variable_elimination.proofs.Common.{◌≡◌, Bool, true, false, cond, List, [], ◌∷◌, map, refl, sym, Option, Some, None, IfSome, BTreeMap, get, lookup, is_eq, Row, Var, Form, form_of, var_cmp, definition_among, form_entry, forms_in}

abbrev pub form_there : Option Row → Option Form
form_there None = None
form_there (Some row) = Some (form_of row)

entry_forms : (es : List (Var × Row)) (v : Var) → definition_among (map form_entry es) v ≡ form_there (lookup (λ k. is_eq (var_cmp v k)) es)
entry_forms [] v = refl
entry_forms (e ∷ es) v = cases (is_eq (var_cmp v e.0)) (entry_forms es v)
  where
    cases : (b : Bool) → definition_among (map form_entry es) v ≡ form_there (lookup (λ k. is_eq (var_cmp v k)) es) → (cond b (Some (form_of e.1)) (definition_among (map form_entry es) v)) ≡ form_there (cond b (Some e.1) (lookup (λ k. is_eq (var_cmp v k)) es))
    cases true rest = refl
    cases false rest = rest

pub definition_among-get : (m : BTreeMap Var Row) (v : Var) → definition_among (forms_in m) v ≡ form_there (get var_cmp m v)
definition_among-get m v = entry_forms m.entries v

-- what holds of the row that is there
pub IfSome-at : {A : Type 0} (o : Option A) (P : A → Type 0) (a : A) → o ≡ Some a → IfSome o P → P a
IfSome-at None P a e h = absurd (cc e)
IfSome-at {A} (Some b) P a e h = at b (same e) h
  where
    same : Some b ≡ Some a → b ≡ a
    same e = cc e

    at : (c : A) → c ≡ a → P c → P a
    at c s p = rw (sym s) p
