-- One row after another is reduced.
use Rattle.variable_elimination.proofs.Common.{◌≡◌, pos, Bool, true, false, not, ◌||◌, List, [], ◌∷◌, ◌++◌, map, refl, sym, ap, ap₂, ◌∙◌, subst, inl, inr, if◌then◌else◌, Option, Some, None, BTreeMap, all_fit, Rational, first_wide, value_of, Frac, first_wide-fits, first_wide-stops, first_wide-nil, Row, Var, RowName, Sense, combined_scale, Expand, Form, form_of, stands, ReducedRow, at_first, reduced_row, is_kept, reduced_rows, row_steps, has_entries, Scaled, definition_among, without, without_all, scaled_by, expanded, expanded_formed, scaled_of, forms_in, AreReduced, Shape, shape_of, shape, scale_in, scale_worth, AreThese, IsReduction, IsDropped, AreReductions, stays, IsNextRow, AreSoFar}

-- ---- a scale that is kept stays

abbrev pub HasScale : Option Rational → Type 0
HasScale None = ⊥
HasScale (Some s) = Unit {0}

without-scale : (o : Option Form) (v : Var) (s : Scaled) → HasScale s.scale → HasScale (without o v s).scale
without-scale None v s h = h
without-scale (Some def) v s h = by_scale (combined_scale s.form def v) s.scale h
  where
    by_scale : (by : Rational) (o : Option Rational) → HasScale o → HasScale (scaled_by o by)
    by_scale by None h = h
    by_scale by (Some t) h = tt

pub all-scale : (defs : List (Var × Form)) (vs : List Var) (s : Scaled) → HasScale s.scale → HasScale (without_all defs vs s).scale
all-scale defs [] s h = h
all-scale defs (v ∷ vs) s h = all-scale defs vs (without (definition_among defs v) v s) (without-scale (definition_among defs v) v s h)

-- ---- lists with one more

append_one : (xs ys : List Row) (x : Row) → xs ++ (x ∷ ys) ≡ (xs ++ x ∷ []) ++ ys
append_one [] ys x = refl
append_one (z ∷ zs) ys x = ap {B = List Row} (λ ws. z ∷ ws) (append_one zs ys x)

append_nothing : (rows : List Row) → rows ++ [] ≡ rows
append_nothing [] = refl
append_nothing (row ∷ rows) = ap {B = List Row} (λ rs. row ∷ rs) (append_nothing rows)

map-last : {A B : Type 0} (f : A → B) (xs : List A) (x : A) → map f (xs ++ x ∷ []) ≡ map f xs ++ f x ∷ []
map-last f [] x = refl
map-last {A} {B} f (y ∷ ys) x = ap {B = List B} (λ zs. f y ∷ zs) (map-last f ys x)

reduced_rows-last : (defs : List (Var × Form)) (rows : List Row) (row : Row) → reduced_rows defs (rows ++ row ∷ []) ≡ reduced_rows defs rows ++ (if is_kept (reduced_row defs row) then reduced_row defs row ∷ [] else [])
reduced_rows-last defs [] row = refl
reduced_rows-last defs (first ∷ rows) row = cases (is_kept (reduced_row defs first)) (reduced_rows-last defs rows row)
  where
    last : List ReducedRow
    last = if is_kept (reduced_row defs row) then reduced_row defs row ∷ [] else []

    cases : (b : Bool) → reduced_rows defs (rows ++ row ∷ []) ≡ reduced_rows defs rows ++ last
        → (if b then reduced_row defs first ∷ reduced_rows defs (rows ++ row ∷ []) else reduced_rows defs (rows ++ row ∷ [])) ≡ (if b then reduced_row defs first ∷ reduced_rows defs rows else reduced_rows defs rows) ++ last
    cases true rest = ap {B = List ReducedRow} (λ rs. reduced_row defs first ∷ rs) rest
    cases false rest = rest

-- ---- one more of each

-- what the code makes is the reduced row
shape_is : (defs : List (Var × Form)) (row made : Row) (scale : Frac) → made.name ≡ row.name → made.sense ≡ row.sense → scaled_of made (Some scale) ≡ expanded defs (at_first row) → shape_of made ≡ shape (reduced_row defs row)
shape_is defs row made scale n s e = same made.name row.name made.sense row.sense (form_of made) (expanded defs (at_first row)).form n s (ap (λ (t : Scaled). t.form) e)
  where
    same : (a b : RowName) (c d : Sense) (f g : Form) → a ≡ b → c ≡ d → f ≡ g → ◌≡◌ {A = Shape} (record { name = a; sense = c; form = f }) (record { name = b; sense = d; form = g })
    same a b c d f g p q r = cc

stays_is : (defs : List (Var × Form)) (row made : Row) → shape_of made ≡ shape (reduced_row defs row) → stays made ≡ is_kept (reduced_row defs row)
stays_is defs row made e = ap (λ (s : Shape). has_entries s.form.entries || not (stands s.sense (pos 0) s.form.right)) e

AreThese-next : (defs : List (Var × Form)) (done : List Row) (row made : Row) (scale : Frac) (rows new_rows : List Row) (scales new_scales : List Frac)
    → shape_of made ≡ shape (reduced_row defs row) → scale_worth scale ≡ scale_in (reduced_row defs row)
    → new_rows ≡ (if stays made then rows ++ made ∷ [] else rows) → new_scales ≡ (if stays made then scales ++ scale ∷ [] else scales)
    → AreThese (reduced_rows defs done) rows scales → AreThese (reduced_rows defs (done ++ row ∷ [])) new_rows new_scales
AreThese-next defs done row made scale rows new_rows scales new_scales e f rs ss t =
    subst (λ (all : List ReducedRow). AreThese all new_rows new_scales) (sym (reduced_rows-last defs done row ∙ ap (λ b. reduced_rows defs done ++ (if b then reduced_row defs row ∷ [] else [])) (sym (stays_is defs row made e)))) (cases (stays made) rs ss)
  where
    r : ReducedRow
    r = reduced_row defs row

    append_none : (xs : List ReducedRow) → xs ++ [] ≡ xs
    append_none [] = refl
    append_none (x ∷ xs) = ap {B = List ReducedRow} (λ zs. x ∷ zs) (append_none xs)

    cases : (b : Bool) → new_rows ≡ (if b then rows ++ made ∷ [] else rows) → new_scales ≡ (if b then scales ++ scale ∷ [] else scales) → AreThese (reduced_rows defs done ++ (if b then r ∷ [] else [])) new_rows new_scales
    cases true p q = record {
      rows_are = ap (map shape_of) p ∙ map-last shape_of rows made ∙ ap₂ {C = List Shape} (λ xs x. xs ++ x ∷ []) t.rows_are e ∙ sym (map-last shape (reduced_rows defs done) r);
      scales_are = ap (map scale_worth) q ∙ map-last scale_worth scales scale ∙ ap₂ {C = List (Option Rational)} (λ xs x. xs ++ x ∷ []) t.scales_are f ∙ sym (map-last scale_in (reduced_rows defs done) r);
    }
    cases false p q = record {
      rows_are = ap (map shape_of) p ∙ t.rows_are ∙ ap (map shape) (sym (append_none (reduced_rows defs done)));
      scales_are = ap (map scale_worth) q ∙ t.scales_are ∙ ap (map scale_in) (sym (append_none (reduced_rows defs done)));
    }

AreReductions-dropped : (definitions done : List Row) (row : Row) (rows : List Row) (scales : List Frac) → IsDropped definitions row → AreReductions definitions done rows scales → AreReductions definitions (done ++ row ∷ []) rows scales
AreReductions-dropped definitions [] row rows scales d h = inl (d, h)
AreReductions-dropped definitions (first ∷ done) row rows scales d (inl h) = inl (h.0, AreReductions-dropped definitions done row rows scales d h.1)
AreReductions-dropped definitions (first ∷ done) row rows scales d (inr (n, s, more, more_scales, e, f, r, h)) = inr (n, s, more, more_scales, e, f, r, AreReductions-dropped definitions done row more more_scales d h)

AreReductions-kept : (definitions done : List Row) (row made : Row) (scale : Frac) (rows : List Row) (scales : List Frac) → IsReduction definitions row (value_of scale) made → AreReductions definitions done rows scales
    → AreReductions definitions (done ++ row ∷ []) (rows ++ made ∷ []) (scales ++ scale ∷ [])
AreReductions-kept definitions [] row made scale rows scales r h = inr (made, scale, [], [], ap (λ (xs : List Row). xs ++ made ∷ []) h.0, ap (λ (xs : List Frac). xs ++ scale ∷ []) h.1, r, (refl, refl))
AreReductions-kept definitions (first ∷ done) row made scale rows scales r (inl h) = inl (h.0, AreReductions-kept definitions done row made scale rows scales r h.1)
AreReductions-kept definitions (first ∷ done) row made scale rows scales r (inr (n, s, more, more_scales, e, f, k, h)) =
    inr (n, s, more ++ made ∷ [], more_scales ++ scale ∷ [], ap (λ (xs : List Row). xs ++ made ∷ []) e, ap (λ (xs : List Frac). xs ++ scale ∷ []) f, k, AreReductions-kept definitions done row made scale more more_scales r h)

not_stays : (a b : Bool) → (a || not b) ≡ false → (a ≡ false) × (b ≡ true)
not_stays true b h = absurd (cc h)
not_stays false true h = (refl, refl)
not_stays false false h = absurd (cc h)

AreReductions-next : (definitions done : List Row) (row made : Row) (scale : Frac) (rows new_rows : List Row) (scales new_scales : List Frac) → IsReduction definitions row (value_of scale) made
    → new_rows ≡ (if stays made then rows ++ made ∷ [] else rows) → new_scales ≡ (if stays made then scales ++ scale ∷ [] else scales)
    → AreReductions definitions done rows scales → AreReductions definitions (done ++ row ∷ []) new_rows new_scales
AreReductions-next definitions done row made scale rows new_rows scales new_scales r rs ss h = cases (stays made) refl rs ss
  where
    cases : (b : Bool) → stays made ≡ b → new_rows ≡ (if b then rows ++ made ∷ [] else rows) → new_scales ≡ (if b then scales ++ scale ∷ [] else scales) → AreReductions definitions (done ++ row ∷ []) new_rows new_scales
    cases true is p q =
        subst (λ (xs : List Row). AreReductions definitions (done ++ row ∷ []) xs new_scales) (sym p)
        (subst (λ (ys : List Frac). AreReductions definitions (done ++ row ∷ []) (rows ++ made ∷ []) ys) (sym q) (AreReductions-kept definitions done row made scale rows scales r h))
    cases false is p q =
        let parts = not_stays (has_entries made.entries.items) (stands made.sense (pos 0) made.rhs) is in
        let dropped : IsDropped definitions row = record { new = made; scale = scale; reduction = r; empty = parts.0; holds = parts.1 } in
        subst (λ (xs : List Row). AreReductions definitions (done ++ row ∷ []) xs new_scales) (sym p)
        (subst (λ (ys : List Frac). AreReductions definitions (done ++ row ∷ []) rows ys) (sym q) (AreReductions-dropped definitions done row rows scales dropped h))

-- ---- the loop

pub AreSoFar-none : (m : BTreeMap Var Row) (all : List Row) → AreSoFar m all all [] []
AreSoFar-none m all = record {
  done = [];
  whole = refl;
  made = record { rows_are = refl; scales_are = refl };
  reductions = λ named h. (refl, refl);
  steps = refl;
}

pub AreSoFar-next : (m : BTreeMap Var Row) (all : List Row) (row : Row) (rest left : List Row) (rows new_rows : List Row) (scales new_scales : List Frac) → left ≡ row ∷ rest → IsNextRow m row rows new_rows scales new_scales
    → all_fit (expanded_formed (forms_in m) (at_first row)) ≡ true → AreSoFar m all left rows scales → AreSoFar m all rest new_rows new_scales
AreSoFar-next m all row rest left rows new_rows scales new_scales e n fit s =
    let same : shape_of n.made ≡ shape (reduced_row (forms_in m) row) = shape_is (forms_in m) row n.made n.scale n.name n.sense n.scaled in
    record {
      done = s.done ++ row ∷ [];
      whole = s.whole ∙ ap (λ (rs : List Row). s.done ++ rs) e ∙ append_one s.done rest row;
      made = AreThese-next (forms_in m) s.done row n.made n.scale rows new_rows scales new_scales same (ap (λ (t : Scaled). t.scale) n.scaled) n.rows_are n.scales_are s.made;
      reductions = λ named h. AreReductions-next named s.done row n.made n.scale rows new_rows scales new_scales (n.reduced named h) n.rows_are n.scales_are (s.reductions named h);
      steps = s.steps ∙ ap (λ (rs : List Row). first_wide (row_steps (forms_in m) rs)) e ∙ first_wide-fits (record { place = Expand row.name; formed = expanded_formed (forms_in m) (at_first row) }) (row_steps (forms_in m) rest) fit;
    }

pub AreSoFar-stop : (m : BTreeMap Var Row) (all : List Row) (row : Row) (rest left : List Row) (rows : List Row) (scales : List Frac) → left ≡ row ∷ rest → AreSoFar m all left rows scales
    → all_fit (expanded_formed (forms_in m) (at_first row)) ≡ false → first_wide (row_steps (forms_in m) all) ≡ Some (Expand row.name)
AreSoFar-stop m all row rest left rows scales e s wide =
    s.steps ∙ ap (λ (rs : List Row). first_wide (row_steps (forms_in m) rs)) e ∙ first_wide-stops (record { place = Expand row.name; formed = expanded_formed (forms_in m) (at_first row) }) (row_steps (forms_in m) rest) wide

module _ (m : BTreeMap Var Row) (all rest : List Row) (rows : List Row) (scales : List Frac) (none : rest ≡ []) (s : AreSoFar m all rest rows scales) where
  done_is : s.done ≡ all
  done_is = sym (s.whole ∙ ap (λ (rs : List Row). s.done ++ rs) none ∙ append_nothing s.done)

  pub end_these : AreThese (reduced_rows (forms_in m) all) rows scales
  end_these = subst (λ (rs : List Row). AreThese (reduced_rows (forms_in m) rs) rows scales) done_is s.made

  pub end_reductions : (named : List Row) → AreReduced named m → AreReductions named all rows scales
  end_reductions named h = subst (λ (rs : List Row). AreReductions named rs rows scales) done_is (s.reductions named h)

  pub end_steps : first_wide (row_steps (forms_in m) all) ≡ None
  end_steps = s.steps ∙ ap (λ (rs : List Row). first_wide (row_steps (forms_in m) rs)) none ∙ first_wide-nil
