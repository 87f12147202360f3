-- Where the elimination of rows fits, that of the rows with the limit after them stops only at the row that limits the cost.
use Rattle.span_finder.proofs.Common.{◌≡◌, ℕ, pos, List, [], ◌∷◌, ◌++◌, inl, inr, length, map, refl, sym, ap, ap₂, ◌∙◌, subst, Option, Some, None, Result, Ok, Err, IfErr, option_or, all_fit, Rational, whole, Step, first_wide, first_wide-append, Row, Var, Place, CostRow, Expand, RowContents, contents_of, span_name, Form, Definition, definitions_of, others_of, cost_variable, cost_variables, definition_steps, elimination_steps, expanded_all, minus_one_at, row_steps, unscaled, with_cost_variable, One, Least, Greatest, Values, by_test, MethodEnd, HasOptimum, HasNoPlan, HasNoBound, IsPivotDue, IsWide, solved_end, Budget, Trial, Width, HasLimitRow, IsBounded, IsNothing, IsPlainStop, IsRising, IsStopped, SpanEnd, Stops, both_trials, greatest_end, least_end, Span, SpanFail}
use Rattle.std.specs.Prelude.{⊤}
use Rattle.written_method.specs.Expanded.{expanded, expanded_formed}
use Rattle.simplex_core.specs.declared.stops.Stop.{Stop}
use Rattle.span_finder.specs.declared.found.SpanFail.TheVariants as fails
use Rattle.span_finder.proofs.LimitedLaws.{copied, definitions-last, others-last, said}
use Rattle.span_finder.proofs.SpanLaws.{spanned-wide, trials-from}

-- ---- rows that say the same have the same steps

abbrev form_in : RowContents → Form
form_in c = record { entries = c.entries; right = c.rhs }

abbrev defining : List (Var × Form) → RowContents × Var → Step Place
defining before s = record { place = Expand s.0.name; formed = expanded_formed before (unscaled (form_in s.0)) }

abbrev one_more : List (Var × Form) → RowContents × Var → List (Var × Form)
one_more before s = (s.1, (expanded before (unscaled (form_in s.0))).form) ∷ before

definitions-same : (before : List (Var × Form)) (ds those : List Definition) → map said ds ≡ map said those → (definition_steps before ds ≡ definition_steps before those) × (expanded_all before ds ≡ expanded_all before those)
definitions-same before [] [] e = (refl, refl)
definitions-same before [] (x ∷ those) e = absurd (cc e)
definitions-same before (d ∷ ds) [] e = absurd (cc e)
definitions-same before (d ∷ ds) (x ∷ those) e =
    let first : said d ≡ said x = cc e in
    let rest : map said ds ≡ map said those = cc e in
    let later = definitions-same (one_more before (said x)) ds those rest in (
      ap {B = List (Step Place)} (λ (s : RowContents × Var). defining before s ∷ definition_steps (one_more before s) ds) first ∙ ap {B = List (Step Place)} (λ ss. defining before (said x) ∷ ss) later.0,
      ap (λ (s : RowContents × Var). expanded_all (one_more before s) ds) first ∙ later.1,
    )

abbrev expanding : List (Var × Form) → RowContents → Step Place
expanding forms c = record { place = Expand c.name; formed = expanded_formed forms (record { form = form_in c; scale = Some (whole (pos 1)) }) }

steps-said : (forms : List (Var × Form)) (rows : List Row) → row_steps forms rows ≡ map (expanding forms) (map contents_of rows)
steps-said forms [] = refl
steps-said forms (r ∷ rows) = ap {B = List (Step Place)} (λ ss. expanding forms (contents_of r) ∷ ss) (steps-said forms rows)

others-same : (forms : List (Var × Form)) (copies rows : List Row) → map contents_of copies ≡ map contents_of rows → row_steps forms copies ≡ row_steps forms rows
others-same forms copies rows e = steps-said forms copies ∙ ap (map (expanding forms)) e ∙ sym (steps-said forms rows)

-- ---- a row more, which defines nothing

steps-last : (forms : List (Var × Form)) (rows : List Row) (last : Row) → row_steps forms (rows ++ last ∷ []) ≡ row_steps forms rows ++ expanding forms (contents_of last) ∷ []
steps-last forms [] last = refl
steps-last forms (r ∷ rows) last = ap {B = List (Step Place)} (λ ss. expanding forms (contents_of r) ∷ ss) (steps-last forms rows last)

costs-last : (so_far : List Var) (defs : List (Option Var)) → cost_variables so_far (defs ++ None ∷ []) ≡ cost_variables so_far defs
costs-last so_far [] = refl
costs-last so_far (def ∷ defs) = costs-last (with_cost_variable so_far def) defs

-- ---- the first step that is too wide

none-parts : (a b : Option Place) → option_or a b ≡ None → (a ≡ None) × (b ≡ None)
none-parts None b h = (refl, h)
none-parts (Some place) b h = absurd (cc h)

or-none : (a : Option Place) → option_or a None ≡ a
or-none None = refl
or-none (Some place) = refl

single : (s : Step Place) (place : Place) → first_wide (s ∷ []) ≡ Some place → s.place ≡ place
unfolding first_wide
single s place h = by_test (all_fit s.formed) (λ is. absurd (cc (rw is at h))) (λ is. cc (rw is at h))

only-there : (d r c : List (Step Place)) (l : Step Place) (place : Place) → first_wide (d ++ (r ++ c)) ≡ None → first_wide (d ++ ((r ++ l ∷ []) ++ c)) ≡ Some place → l.place ≡ place
only-there d r c l place own wide =
    let ends : List (Step Place) = (r ++ l ∷ []) ++ c in
    let one = none-parts (first_wide d) (first_wide (r ++ c)) (sym (first_wide-append d (r ++ c)) ∙ own) in
    let two = none-parts (first_wide r) (first_wide c) (sym (first_wide-append r c) ∙ one.1) in
    let later : first_wide ends ≡ Some place = sym (ap (λ o. option_or o (first_wide ends)) one.0) ∙ sym (first_wide-append d ends) ∙ wide in
    let alone : first_wide ends ≡ first_wide (l ∷ []) =
    first_wide-append (r ++ l ∷ []) c ∙ ap₂ (λ o p. option_or o p) (first_wide-append r (l ∷ []) ∙ ap (λ o. option_or o (first_wide (l ∷ []))) two.0) two.1 ∙ or-none (first_wide (l ∷ [])) in
    single l place (sym alone ∙ later)

-- ---- the elimination

module _ (rows : List Row) (defs : List (Option Var)) (vars : List Var) (limit : Rational) (all : List Row) (same : length defs ≡ length rows) (of : HasLimitRow rows vars limit all) where
  abbrev last : Row
  last = of.row

  abbrev more : List (Option Var)
  more = defs ++ None ∷ []

  abbrev forms : List (Var × Form)
  forms = expanded_all [] (definitions_of rows defs)

  -- the step of the cost, with these variables of which the cost is the sum
  abbrev costing : List (Var × Form) → List Var → List (Step Place)
  costing fs costs = record { place = CostRow; formed = expanded_formed fs (unscaled (record { entries = (cost_variable, pos 1) ∷ map minus_one_at costs; right = pos 0 })) } ∷ []

  steps-are : elimination_steps all more ≡ definition_steps [] (definitions_of rows defs) ++ ((row_steps forms (others_of rows defs) ++ expanding forms (contents_of last) ∷ []) ++ costing forms (cost_variables [] defs))
  steps-are =
      let parts = copied all (rows ++ last ∷ []) more of.contents in
      let of_definitions = definitions-same [] (definitions_of all more) (definitions_of (rows ++ last ∷ []) more) parts.0 in
      let without = definitions-last rows last defs same in
      let formed : expanded_all [] (definitions_of all more) ≡ forms = of_definitions.1 ∙ ap (expanded_all []) without in
      let first : definition_steps [] (definitions_of all more) ≡ definition_steps [] (definitions_of rows defs) = of_definitions.0 ∙ ap (definition_steps []) without in
      let second : row_steps (expanded_all [] (definitions_of all more)) (others_of all more) ≡ row_steps forms (others_of rows defs) ++ expanding forms (contents_of last) ∷ [] =
      ap (λ fs. row_steps fs (others_of all more)) formed ∙ others-same forms (others_of all more) (others_of (rows ++ last ∷ []) more) parts.1 ∙ ap (row_steps forms) (others-last rows last defs same)
      ∙ steps-last forms (others_of rows defs) last in
      let third : costing (expanded_all [] (definitions_of all more)) (cost_variables [] more) ≡ costing forms (cost_variables [] defs) = ap₂ (λ fs costs. costing fs costs) formed (costs-last [] defs) in
      ap₂ (λ d t. d ++ t) first (ap₂ (λ r c. r ++ c) second third)

  pub limit-wide : (place : Place) → first_wide (elimination_steps rows defs) ≡ None → first_wide (elimination_steps all more) ≡ Some place → place ≡ Expand span_name
  limit-wide place own wide =
      sym (only-there (definition_steps [] (definitions_of rows defs)) (row_steps forms (others_of rows defs)) (costing forms (cost_variables [] defs)) (expanding forms (contents_of last)) place own (ap first_wide (sym steps-are) ∙ wide))
      ∙ ap Expand of.is.name

-- ---- the trials stop with their numbers

abbrev AreOnlyTrials : SpanEnd → Type 0
AreOnlyTrials (IsStopped (Trial number stop)) = ⊤
AreOnlyTrials (IsStopped (Budget pivots)) = ⊥
AreOnlyTrials (IsStopped (Width place)) = ⊥
AreOnlyTrials (IsBounded low high) = ⊤
AreOnlyTrials (IsRising low high direction) = ⊤
AreOnlyTrials IsNothing = ⊤

trials-alone : (rows : List Row) (defs : List (Option Var)) (vars : List Var) (var : Var) (pivots : ℕ) → AreOnlyTrials (both_trials rows defs vars var pivots)
unfolding both_trials
trials-alone rows defs vars var pivots = first (solved_end rows defs vars (One var Least) pivots)
  where
    after : MethodEnd
    after = solved_end rows defs vars (One var Greatest) pivots

    second : (low : Values) (end : MethodEnd) → AreOnlyTrials (greatest_end pivots low end)
    second low (HasOptimum high multipliers made) = tt
    second low (HasNoBound high direction made) = tt
    second low (HasNoPlan multipliers made) = tt
    second low IsPivotDue = tt
    second low (IsWide place) = tt

    first : (end : MethodEnd) → AreOnlyTrials (least_end pivots (λ low. greatest_end pivots low after) end)
    first (HasOptimum low multipliers made) = second low after
    first (HasNoBound low direction made) = tt
    first (HasNoPlan multipliers made) = tt
    first IsPivotDue = tt
    first (IsWide place) = tt

from-alone : (stop : Stop) → AreOnlyTrials (IsStopped stop) → IsPlainStop (fails.Stopped stop)
from-alone (Trial number stop) h = tt
from-alone (Budget pivots) h = absurd h
from-alone (Width place) h = absurd h

module _ (rows : List Row) (defs : List (Option Var)) (vars : List Var) (limit : Rational) (var : Var) (pivots : ℕ) (same : length defs ≡ length rows) (own : first_wide (elimination_steps rows defs) ≡ None) where
  plain-from_stops : (fail : SpanFail) → Stops rows defs vars limit var pivots fail → IsPlainStop fail
  plain-from_stops fails.Memory h = tt
  plain-from_stops (fails.Stopped stop) (inl wide) = subst (λ (s : Stop). IsPlainStop (fails.Stopped s)) (sym wide.is) (inl refl)
  plain-from_stops (fails.Stopped stop) (inr e) = cases (first_wide (elimination_steps e.all more)) refl
    where
      more : List (Option Var)
      more = defs ++ None ∷ []

      cases : (o : Option Place) → first_wide (elimination_steps e.all more) ≡ o → IsPlainStop (fails.Stopped stop)
      cases None is = from-alone stop (subst AreOnlyTrials (sym (trials-from e.all more vars var pivots is) ∙ e.ends) (trials-alone e.all more vars var pivots))
      cases (Some place) is =
          let width : Width place ≡ stop = cc (sym (spanned-wide e.all more vars var pivots place is) ∙ e.ends) in
          subst (λ (s : Stop). IsPlainStop (fails.Stopped s)) width (inr (limit-wide rows defs vars limit e.all same e.limited place own is))

  pub answer-plain : (answer : Result Span SpanFail) → IfErr answer (Stops rows defs vars limit var pivots) → IfErr answer IsPlainStop
  answer-plain (Ok span) h = tt
  answer-plain (Err fail) h = plain-from_stops fail h
