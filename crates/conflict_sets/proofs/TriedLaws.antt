-- The linear program of a trial is that of the definitions, is ready to be solved, and its rows are some of those that are left.
use Rattle.conflict_sets.proofs.Common.{◌≡◌, ◌+◌, ◌<◌, ◌≤◌, ◌^◌, Bool, true, false, List, [], ◌∷◌, inl, inr, length, map, filter, refl, sym, ap, ap₂, ◌∙◌, arith, Option, ints, length-map, all_fit, Rational, value_of, Frac, Row, RowName, Var, Reduced, definitions_of, defined, others_of, rows_of, ReducedRow, is_column, width_of, Inequality, LinearProgram, inequality_of, program_of, ArePosed, IsPosed, IsReady, RowsAreAmong, AreAmongReductions, IsPartOf, AvoidAll, RowContents, contents_of, AreReductions, IsReduction, names_of, inequality_in, name_left, program_left, rows_left, scale_left, IsPosedProblem, Problem, as_many, IsTriedOf, selected, tests_of, rows_tried, trial_program}
use Rattle.std.proofs.lemmas.Simd.{map-map}
use Rattle.conflict_sets.proofs.SelectedLaws.{length-alike, length-selected, map-filter, map-selected, selected-none}

-- ---- copies of selected rows

abbrev inequality_with : RowContents → Inequality
inequality_with s = record { sense = s.sense; entries = s.entries; right = s.rhs }

-- a copy of what a row was reduced to
pub reduction-copied : (definitions : List Row) (named : Row) (scale : Rational) (new copy : Row) → contents_of copy ≡ contents_of new → IsReduction definitions named scale new → IsReduction definitions named scale copy
reduction-copied definitions named scale new copy e r = record {
  name = ap (λ (s : RowContents). s.name) e ∙ r.name;
  sense = ap (λ (s : RowContents). s.sense) e ∙ r.sense;
  lowest = r.lowest;
  reduced = record {
    over = r.reduced.over;
    multiple = r.reduced.multiple;
    over_positive = r.reduced.over_positive;
    scale_positive = r.reduced.scale_positive;
    bottom_positive = r.reduced.bottom_positive;
    sums = λ x. rw (ap (λ (s : RowContents). s.entries) e) (r.reduced.sums x);
    right_side = rw (ap (λ (s : RowContents). s.rhs) e) r.reduced.right_side;
  };
}

pub among : (definitions others rows : List Row) (scales : List Frac) (ts : List Bool) (made : List Row) (made_scales : List Frac) → map contents_of made ≡ selected ts (map contents_of rows) → made_scales ≡ selected ts scales
    → AreReductions definitions others rows scales → AreAmongReductions definitions others made made_scales
among definitions [] rows scales ts made made_scales e f h = (none made (e ∙ ap (λ (rs : List Row). selected ts (map contents_of rs)) h.0 ∙ selected-none ts), f ∙ ap (selected ts) h.1 ∙ selected-none ts)
  where
    none : (made : List Row) → map contents_of made ≡ [] → made ≡ []
    none [] e = refl
    none (m ∷ made) e = absurd (cc e)
among definitions (named ∷ others) rows scales ts made made_scales e f (inl (dropped, h)) = inl (among definitions others rows scales ts made made_scales e f h)
among definitions (named ∷ others) rows scales ts made made_scales e f (inr (new, scale, more, more_scales, ee, ff, r, h)) =
    cases ts made made_scales (e ∙ ap (λ (rs : List Row). selected ts (map contents_of rs)) ee) (f ∙ ap (selected ts) ff) (λ us ks ss i j. among definitions others more more_scales us ks ss i j h)
  where
    cases : (ts : List Bool) (made : List Row) (made_scales : List Frac) → map contents_of made ≡ selected ts (map contents_of (new ∷ more)) → made_scales ≡ selected ts (scale ∷ more_scales)
        → ((us : List Bool) (ks : List Row) (ss : List Frac) → map contents_of ks ≡ selected us (map contents_of more) → ss ≡ selected us more_scales → AreAmongReductions definitions others ks ss) → AreAmongReductions definitions (named ∷ others) made made_scales
    cases [] made made_scales e f rest = inl (rest [] made made_scales e f)
    cases (false ∷ ts) made made_scales e f rest = inl (rest ts made made_scales e f)
    cases (true ∷ ts) [] made_scales e f rest = absurd (cc e)
    cases (true ∷ ts) (m ∷ made) made_scales e f rest =
        let first : contents_of m ≡ contents_of new = cc e in
        let later : map contents_of made ≡ selected ts (map contents_of more) = cc e in
        inr (m, scale, made, selected ts more_scales, refl, f, reduction-copied definitions named (value_of scale) new m first r, rest ts made (selected ts more_scales) later refl)

pub avoid-selected : (vars : List Var) (ts : List Bool) (rows made : List Row) → map contents_of made ≡ selected ts (map contents_of rows) → AvoidAll vars rows → AvoidAll vars made
avoid-selected vars ts rows [] e h = tt
avoid-selected vars [] rows (m ∷ made) e h = absurd (cc e)
avoid-selected vars (t ∷ ts) [] (m ∷ made) e h = absurd (cc e)
avoid-selected vars (true ∷ ts) (row ∷ rows) (m ∷ made) e h =
    let first : contents_of m ≡ contents_of row = cc e in
    let rest : map contents_of made ≡ selected ts (map contents_of rows) = cc e in
    (rw (ap (λ (s : RowContents). s.entries) first) h.0, avoid-selected vars ts rows made rest h.1)
avoid-selected vars (false ∷ ts) (row ∷ rows) (m ∷ made) e h = avoid-selected vars ts rows (m ∷ made) e h.1

posed-selected : (columns : List Var) (ts : List Bool) (rows : List Inequality) → ArePosed columns rows → ArePosed columns (selected ts rows)
posed-selected columns [] rows h = tt
posed-selected columns (t ∷ ts) [] h = tt
posed-selected columns (true ∷ ts) (row ∷ rows) h = (h.0, h.1, h.2, posed-selected columns ts rows h.3)
posed-selected columns (false ∷ ts) (row ∷ rows) h = posed-selected columns ts rows h.3

among-posed : (columns : List Var) (rows : List Row) → ArePosed columns (map inequality_of rows) → RowsAreAmong columns rows
among-posed columns [] h = tt
among-posed columns (row ∷ rows) h = (h.2, among-posed columns rows h.3)

-- what is left of a problem has as many scales as rows
pub whole-many : (problem : Problem) → IsPosedProblem problem → length problem.reduced.now.scales.items ≡ length problem.reduced.now.rows.items
whole-many problem of =
    let defs = problem.defs.now in
    as_many (rows_of (definitions_of problem.rows.now defs)) (others_of problem.rows.now defs) problem.reduced.now.rows.items problem.reduced.now.scales.items of.reductions

-- ---- the trial's program

module _ (listed : RowName → Bool) (problem : Problem) (of : IsPosedProblem problem) (made : Reduced) (tried : IsTriedOf listed problem.reduced.now made) where
  abbrev rows : List Row
  rows = problem.rows.now

  abbrev defs : List (Option Var)
  defs = problem.defs.now

  abbrev vars : List Var
  vars = problem.vars.now

  abbrev whole : Reduced
  whole = problem.reduced.now

  abbrev tests : List Bool
  tests = tests_of listed whole.rows.items

  tests-left : map (λ (r : ReducedRow). listed r.name) (rows_left rows defs) ≡ tests
  tests-left = sym (map-map listed name_left (rows_left rows defs)) ∙ ap (map listed) (sym of.names) ∙ map-map listed (λ (row : Row). row.name) whole.rows.items

  -- what is so of the rows that are left is so of those that are tried
  tried-are : {B : Type 0} (f : ReducedRow → B) (bs : List B) → map f (rows_left rows defs) ≡ bs → map f (rows_tried listed rows defs) ≡ selected tests bs
  tried-are f bs e = map-filter (λ (r : ReducedRow). listed r.name) f (rows_left rows defs) ∙ ap₂ (λ ts ys. selected ts ys) tests-left e

  inequalities-made : map inequality_of made.rows.items ≡ selected tests (map inequality_of whole.rows.items)
  inequalities-made =
      sym (map-map inequality_with contents_of made.rows.items) ∙ ap (map inequality_with) tried.rows ∙ map-selected inequality_with tests (map contents_of whole.rows.items)
      ∙ ap (selected tests) (map-map inequality_with contents_of whole.rows.items)

  left-rows : map inequality_in (rows_left rows defs) ≡ map inequality_of whole.rows.items
  unfolding program_left
  left-rows = sym (ap (λ (p : LinearProgram). p.rows) of.left)

  pub program-tried : program_of made ≡ trial_program listed rows defs vars
  unfolding trial_program program_left
  program-tried =
      let same_rows : map inequality_of made.rows.items ≡ map inequality_in (rows_tried listed rows defs) = inequalities-made ∙ sym (tried-are inequality_in (map inequality_of whole.rows.items) left-rows) in
      let same_columns : made.columns.items ≡ filter is_column vars = tried.columns ∙ of.columns in
      cc (tried.cost, tried.cost_right, tried.cost_own)

  pub names-tried : names_of made.rows.items ≡ map name_left (rows_tried listed rows defs)
  names-tried =
      sym (map-map (λ (s : RowContents). s.name) contents_of made.rows.items) ∙ ap (map (λ (s : RowContents). s.name)) tried.rows ∙ map-selected (λ (s : RowContents). s.name) tests (map contents_of whole.rows.items)
      ∙ ap (selected tests) (map-map (λ (s : RowContents). s.name) contents_of whole.rows.items) ∙ sym (tried-are name_left (names_of whole.rows.items) (sym of.names))

  pub scales-tried : map value_of made.scales.items ≡ map scale_left (rows_tried listed rows defs)
  scales-tried = ap (map value_of) tried.scales ∙ map-selected value_of tests whole.scales.items ∙ sym (tried-are scale_left (map value_of whole.scales.items) (sym of.scales))

  scales-many : length whole.scales.items ≡ length whole.rows.items
  scales-many = whole-many problem of

  rows-many : length made.rows.items ≡ length (selected tests whole.rows.items)
  rows-many = sym (length-map made.rows.items contents_of) ∙ ap length (tried.rows ∙ sym (map-selected contents_of tests whole.rows.items)) ∙ length-map (selected tests whole.rows.items) contents_of

  pub as-many : length made.scales.items ≡ length made.rows.items
  as-many = ap length tried.scales ∙ length-alike tests whole.scales.items whole.rows.items scales-many ∙ sym rows-many

  pub posed-tried : IsPosed (program_of made)
  posed-tried = record {
    columns = rw tried.columns of.posed.columns;
    rows = rw (tried.columns, inequalities-made) (posed-selected whole.columns.items tests (map inequality_of whole.rows.items) of.posed.rows);
    cost_ascends = rw tried.cost refl;
    cost_among = rw tried.cost tt;
    cost_positive = rw tried.cost_own (omega (arith, ints));
  }

  pub ready-tried : IsReady made
  unfolding all_fit
  ready-tried = record {
    columns = posed-tried.columns;
    rows_among = among-posed made.columns.items made.rows.items posed-tried.rows;
    cost_ascends = posed-tried.cost_ascends;
    cost_among = posed-tried.cost_among;
    cost_fits = rw tried.cost refl;
    right_fits = rw tried.cost_right (omega arith);
    own_fits = rw tried.cost_own (omega arith);
    own_positive = posed-tried.cost_positive;
    countable = countable;
  }
    where
      countable : width_of made.columns.items + length made.rows.items + 1 < 2 ^ 64
      countable =
          let few : length made.rows.items ≤ length whole.rows.items = rw rows-many (length-selected tests whole.rows.items) in
          let before : width_of whole.columns.items + length whole.rows.items + 1 < 2 ^ 64 = of.ready.countable in
          let same : width_of made.columns.items ≡ width_of whole.columns.items = ap width_of tried.columns in
          omega arith

  pub part-tried : IsPartOf rows defs made
  part-tried = record {
    reductions = among (rows_of (definitions_of rows defs)) (others_of rows defs) whole.rows.items whole.scales.items tests made.rows.items made.scales.items tried.rows tried.scales of.reductions;
    without = avoid-selected (defined (definitions_of rows defs)) tests whole.rows.items made.rows.items tried.rows of.part.without;
  }
