-- Where definitions are taken one after another, no defined variable is left in an expanded row.
use Rattle.variable_elimination.proofs.Common.{◌≡◌, ℤ, pos, Bool, true, false, not, ◌&&◌, ◌||◌, List, [], ◌∷◌, ◌⊎◌, inl, inr, refl, sym, ap, ◌∙◌, subst, if◌then◌else◌, Option, Some, None, ⊤, is_eq, Var, Form, form_of, is_zero, numbers_of, variables_of, none_zero, var_cmp, number_at, both_passed, row_sum-alone, var_cmp_exact, Definition, defined, is_among, avoids, AreTriangular, unscaled, expanded_all, Scaled, definition_among, without, without_all, expanded}
use Rattle.variable_elimination.proofs.FormLaws.{Ascends, HaveOnly, combined-ascends, combined-none, combined-removes, combined-only}
use Rattle.variable_elimination.proofs.LiftLaws.{alike}
use Rattle.variable_elimination.proofs.VariableLaws.{itself, turned, none_there}

-- ---- entries

pub number_at-none : (es : List (Var × ℤ)) (w : Var) → is_among (variables_of es) w ≡ false → number_at es w ≡ pos 0
number_at-none [] w h = refl
number_at-none (e ∷ es) w h = cases (is_eq (var_cmp w e.0)) (turned e.0 w) h (number_at-none es w)
  where
    cases : (t : Bool) → is_eq (var_cmp e.0 w) ≡ t → (t || is_among (variables_of es) w) ≡ false → (is_among (variables_of es) w ≡ false → number_at es w ≡ pos 0) → number_at (e ∷ es) w ≡ pos 0
    cases true is k rest = absurd (cc k)
    cases false is k rest = ap (λ t. if t then e.1 else number_at es w) is ∙ rest k

-- entries without 0 that have no number at any of some variables avoid them
pub avoids-from_none : (vars : List Var) (es : List (Var × ℤ)) → none_zero (numbers_of es) ≡ true → ((w : Var) → is_among vars w ≡ true → number_at es w ≡ pos 0) → avoids vars es ≡ true
avoids-from_none vars [] h k = refl
avoids-from_none vars (e ∷ es) h k = cases (is_among vars e.0) refl (avoids-from_none vars es parts.1 later)
  where
    parts : (not (is_zero e.1) ≡ true) × (none_zero (numbers_of es) ≡ true)
    parts = both_passed (not (is_zero e.1)) (none_zero (numbers_of es)) h

    here : number_at (e ∷ es) e.0 ≡ e.1
    here = ap (λ o. if is_eq o then e.1 else number_at es e.0) (itself e.0)

    not_zero : e.1 ≡ pos 0 → not (is_zero e.1) ≡ true → ⊥
    not_zero z l = let zero : not (is_zero e.1) ≡ false = ap (λ y. not (is_zero y)) z in absurd (cc (zero, l))

    later : (w : Var) → is_among vars w ≡ true → number_at es w ≡ pos 0
    later w l = both (is_eq (var_cmp e.0 w)) refl (k w l)
      where
        both : (t : Bool) → is_eq (var_cmp e.0 w) ≡ t → (if t then e.1 else number_at es w) ≡ pos 0 → number_at es w ≡ pos 0
        both true is z = absurd (not_zero z parts.0)
        both false is z = z

    cases : (t : Bool) → is_among vars e.0 ≡ t → avoids vars es ≡ true → (not t && avoids vars es) ≡ true
    cases true is rest = absurd (not_zero (sym here ∙ k e.0 is) parts.0)
    cases false is rest = rest

-- ---- expanded definitions, and what they keep

-- a definition's form: of the variables of the list it has only its own, and all of its variables are of a kind
pub record IsLeft (vars : List Var) (P : Var → Type 0) (v : Var) (form : Form) : Type 0 where
  pub ascending : Ascends form.entries
  pub none : (w : Var) → is_among vars w ≡ true → is_eq (var_cmp w v) ≡ false → number_at form.entries w ≡ pos 0
  pub only : HaveOnly P form.entries

abbrev pub AreLeft : List Var → (Var → Type 0) → List (Var × Form) → Type 0
AreLeft vars P forms = (v : Var) (form : Form) → definition_among forms v ≡ Some form → IsLeft vars P v form

module _ (vars : List Var) (P : Var → Type 0) (forms : List (Var × Form)) (left : AreLeft vars P forms) where
  next-ascends : (v : Var) (s : Scaled) → Ascends s.form.entries → Ascends (without (definition_among forms v) v s).form.entries
  next-ascends v s h = cases (definition_among forms v) (left v)
    where
      cases : (o : Option Form) → ((form : Form) → o ≡ Some form → IsLeft vars P v form) → Ascends (without o v s).form.entries
      cases None k = h
      cases (Some def) k = combined-ascends s.form def v h (k def refl).ascending

  next-none : (v w : Var) (s : Scaled) → Ascends s.form.entries → is_among vars w ≡ true → number_at s.form.entries w ≡ pos 0 → number_at (without (definition_among forms v) v s).form.entries w ≡ pos 0
  next-none v w s h among none = cases (definition_among forms v) (left v)
    where
      either : (def : Form) → IsLeft vars P v def → (t : Bool) → is_eq (var_cmp w v) ≡ t → number_at (without (Some def) v s).form.entries w ≡ pos 0
      either def l true is =
          subst (λ u. number_at (without (Some def) v s).form.entries u ≡ pos 0) (sym (var_cmp_exact w v (alike (var_cmp w v) is))) (combined-removes s.form def v h l.ascending)
      either def l false is = combined-none s.form def v h l.ascending w none (l.none w among is)

      cases : (o : Option Form) → ((form : Form) → o ≡ Some form → IsLeft vars P v form) → number_at (without o v s).form.entries w ≡ pos 0
      cases None k = none
      cases (Some def) k = either def (k def refl) (is_eq (var_cmp w v)) refl

  next-removed : (v : Var) (form : Form) (s : Scaled) → Ascends s.form.entries → definition_among forms v ≡ Some form → number_at (without (definition_among forms v) v s).form.entries v ≡ pos 0
  next-removed v form s h e =
      subst (λ o. number_at (without o v s).form.entries v ≡ pos 0) (sym e) (combined-removes s.form form v h (left v form e).ascending)

  next-only : (v : Var) (s : Scaled) → HaveOnly P s.form.entries → HaveOnly P (without (definition_among forms v) v s).form.entries
  next-only v s h = cases (definition_among forms v) (left v)
    where
      cases : (o : Option Form) → ((form : Form) → o ≡ Some form → IsLeft vars P v form) → HaveOnly P (without o v s).form.entries
      cases None k = h
      cases (Some def) k = combined-only P s.form def v h (k def refl).only

  all-ascends : (vs : List Var) (s : Scaled) → Ascends s.form.entries → Ascends (without_all forms vs s).form.entries
  all-ascends [] s h = h
  all-ascends (v ∷ vs) s h = all-ascends vs (without (definition_among forms v) v s) (next-ascends v s h)

  all-none : (vs : List Var) (s : Scaled) (w : Var) → Ascends s.form.entries → is_among vars w ≡ true → number_at s.form.entries w ≡ pos 0 → number_at (without_all forms vs s).form.entries w ≡ pos 0
  all-none [] s w h among none = none
  all-none (v ∷ vs) s w h among none = all-none vs (without (definition_among forms v) v s) w (next-ascends v s h) among (next-none v w s h among none)

  all-only : (vs : List Var) (s : Scaled) → HaveOnly P s.form.entries → HaveOnly P (without_all forms vs s).form.entries
  all-only [] s h = h
  all-only (v ∷ vs) s h = all-only vs (without (definition_among forms v) v s) (next-only v s h)

  all-removed : (vs : List Var) (s : Scaled) (w : Var) (form : Form) → Ascends s.form.entries → is_among vars w ≡ true → definition_among forms w ≡ Some form → is_among vs w ≡ true → number_at (without_all forms vs s).form.entries w ≡ pos 0
  all-removed [] s w form h among e k = absurd (cc k)
  all-removed (v ∷ vs) s w form h among e k = cases (is_eq (var_cmp w v)) refl k (all-removed vs (without (definition_among forms v) v s) w form (next-ascends v s h) among e)
    where
      cases : (t : Bool) → is_eq (var_cmp w v) ≡ t → (t || is_among vs w) ≡ true
          → (is_among vs w ≡ true → number_at (without_all forms vs (without (definition_among forms v) v s)).form.entries w ≡ pos 0)
          → number_at (without_all forms vs (without (definition_among forms v) v s)).form.entries w ≡ pos 0
      cases true is l rest =
          let same : w ≡ v = var_cmp_exact w v (alike (var_cmp w v) is) in
          all-none vs (without (definition_among forms v) v s) w (next-ascends v s h) among
          (subst (λ u. number_at (without (definition_among forms v) v s).form.entries u ≡ pos 0) (sym same) (next-removed v form s h (ap (definition_among forms) (sym same) ∙ e)))
      cases false is l rest = rest l

  pub expanded-ascends : (s : Scaled) → Ascends s.form.entries → Ascends (expanded forms s).form.entries
  expanded-ascends s h = all-ascends (variables_of s.form.entries) s h

  pub expanded-none : (s : Scaled) (w : Var) → Ascends s.form.entries → is_among vars w ≡ true → number_at s.form.entries w ≡ pos 0 → number_at (expanded forms s).form.entries w ≡ pos 0
  expanded-none s w h among none = all-none (variables_of s.form.entries) s w h among none

  pub expanded-only : (s : Scaled) → HaveOnly P s.form.entries → HaveOnly P (expanded forms s).form.entries
  expanded-only s h = all-only (variables_of s.form.entries) s h

  -- a variable with an expanded definition is removed
  pub expanded-removed : (s : Scaled) (w : Var) (form : Form) → Ascends s.form.entries → is_among vars w ≡ true → definition_among forms w ≡ Some form → number_at (expanded forms s).form.entries w ≡ pos 0
  expanded-removed s w form h among e = cases (is_among (variables_of s.form.entries) w) refl
    where
      cases : (t : Bool) → is_among (variables_of s.form.entries) w ≡ t → number_at (expanded forms s).form.entries w ≡ pos 0
      cases true is = all-removed (variables_of s.form.entries) s w form h among e is
      cases false is = expanded-none s w h among (number_at-none s.form.entries w is)

-- ---- one definition after another

-- each variable of the list has an expanded definition, or one of those that are left defines it
abbrev pub AreCovered : List Var → List (Var × Form) → List Definition → Type 0
AreCovered vars forms rest = (w : Var) → is_among vars w ≡ true → ((form : Form) × (definition_among forms w ≡ Some form)) ⊎ (is_among (defined rest) w ≡ true)

-- the variables of the definitions are of a kind
abbrev pub DefinitionsHaveOnly : (Var → Type 0) → List Definition → Type 0
DefinitionsHaveOnly P [] = ⊤
DefinitionsHaveOnly P (d ∷ ds) = HaveOnly P d.row.entries.items × DefinitionsHaveOnly P ds

otherwise : (a b : Bool) → (a || b) ≡ true → a ≡ false → b ≡ true
otherwise true b h k = absurd (cc k)
otherwise false b h k = h

module _ (vars : List Var) (P : Var → Type 0) where
  abbrev form_made : List (Var × Form) → Definition → Form
  form_made forms d = (expanded forms (unscaled (form_of d.row))).form

  one_left : (forms : List (Var × Form)) (d : Definition) (rest : List Definition) → AreTriangular (d ∷ rest) → HaveOnly P d.row.entries.items → AreLeft vars P forms → AreCovered vars forms (d ∷ rest) → IsLeft vars P d.variable (form_made forms d)
  one_left forms d rest triangular only left covered = record {
    ascending = expanded-ascends vars P forms left (unscaled (form_of d.row)) d.row.ascending;
    none = λ w among apart. cases w among apart (covered w among);
    only = expanded-only vars P forms left (unscaled (form_of d.row)) only;
  }
    where
      cases : (w : Var) → is_among vars w ≡ true → is_eq (var_cmp w d.variable) ≡ false → ((form : Form) × (definition_among forms w ≡ Some form)) ⊎ (is_among (defined (d ∷ rest)) w ≡ true) → number_at (form_made forms d).entries w ≡ pos 0
      cases w among apart (inl (form, e)) = expanded-removed vars P forms left (unscaled (form_of d.row)) w form d.row.ascending among e
      cases w among apart (inr k) =
          let later : is_among (defined rest) w ≡ true = otherwise (is_eq (var_cmp w d.variable)) (is_among (defined rest) w) k apart in
          expanded-none vars P forms left (unscaled (form_of d.row)) w d.row.ascending among
          (sym (row_sum-alone w d.row.entries.items d.row.ascending) ∙ none_there (defined rest) w d.row.entries.items triangular.1 later)

  more_left : (forms : List (Var × Form)) (v : Var) (made : Form) → IsLeft vars P v made → AreLeft vars P forms → AreLeft vars P ((v, made) ∷ forms)
  more_left forms v made one left w form e = cases (is_eq (var_cmp w v)) refl e
    where
      cases : (t : Bool) → is_eq (var_cmp w v) ≡ t → (if t then Some made else definition_among forms w) ≡ Some form → IsLeft vars P w form
      cases true is k =
          let there : made ≡ form = cc k in
          let same : w ≡ v = var_cmp_exact w v (alike (var_cmp w v) is) in
          subst (λ f. IsLeft vars P w f) there (subst (λ u. IsLeft vars P u made) (sym same) one)
      cases false is k = left w form k

  more_covered : (forms : List (Var × Form)) (d : Definition) (rest : List Definition) (made : Form) → AreCovered vars forms (d ∷ rest) → AreCovered vars ((d.variable, made) ∷ forms) rest
  more_covered forms d rest made covered w among = cases (is_eq (var_cmp w d.variable)) refl (covered w among)
    where
      cases : (t : Bool) → is_eq (var_cmp w d.variable) ≡ t → ((form : Form) × (definition_among forms w ≡ Some form)) ⊎ (is_among (defined (d ∷ rest)) w ≡ true)
          → ((form : Form) × ((if t then Some made else definition_among forms w) ≡ Some form)) ⊎ (is_among (defined rest) w ≡ true)
      cases true is k = inl (made, refl)
      cases false is (inl there) = inl there
      cases false is (inr k) = inr (otherwise (is_eq (var_cmp w d.variable)) (is_among (defined rest) w) k is)

  all_left : (forms : List (Var × Form)) (rest : List Definition) → AreTriangular rest → DefinitionsHaveOnly P rest → AreLeft vars P forms → AreCovered vars forms rest → AreLeft vars P (expanded_all forms rest) × AreCovered vars (expanded_all forms rest) []
  all_left forms [] triangular only left covered = (left, covered)
  all_left forms (d ∷ rest) triangular only left covered =
      all_left ((d.variable, form_made forms d) ∷ forms) rest triangular.3 only.1
      (more_left forms d.variable (form_made forms d) (one_left forms d rest triangular only.0 left covered) left)
      (more_covered forms d rest (form_made forms d) covered)

-- ---- all definitions

-- a form whose variables ascend and are of a kind is left with such variables, none of them defined
pub record IsDone (vars : List Var) (P : Var → Type 0) (form : Form) : Type 0 where
  pub none : (w : Var) → is_among vars w ≡ true → number_at form.entries w ≡ pos 0
  pub only : HaveOnly P form.entries

pub expanded-done : (ds : List Definition) (P : Var → Type 0) (s : Scaled) → AreTriangular ds → DefinitionsHaveOnly P ds → Ascends s.form.entries → HaveOnly P s.form.entries → IsDone (defined ds) P (expanded (expanded_all [] ds) s).form
expanded-done ds P s triangular definitions ascends only = record {
  none = λ w among. cases w among (all.1 w among);
  only = expanded-only (defined ds) P (expanded_all [] ds) all.0 s only;
}
  where
    all : AreLeft (defined ds) P (expanded_all [] ds) × AreCovered (defined ds) (expanded_all [] ds) []
    all = all_left (defined ds) P [] ds triangular definitions (λ v form e. absurd (cc e)) (λ w among. inr among)

    cases : (w : Var) → is_among (defined ds) w ≡ true → ((form : Form) × (definition_among (expanded_all [] ds) w ≡ Some form)) ⊎ (is_among (defined []) w ≡ true) → number_at (expanded (expanded_all [] ds) s).form.entries w ≡ pos 0
    cases w among (inl (form, e)) = expanded-removed (defined ds) P (expanded_all [] ds) all.0 s w form ascends among e
    cases w among (inr k) = absurd (cc k)
