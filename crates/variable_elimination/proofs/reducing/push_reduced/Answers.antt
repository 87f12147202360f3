-- The row is expanded, and kept where it has to stay.
use Rattle.variable_elimination.proofs.Common.{◌≡◌, pos, true, false, List, ◌++◌, [], ◌∷◌, sym, ap, ◌∙◌, subst, if◌then◌else◌, Option, Some, BTreeMap, Rational, whole, value_of, Frac, Row, Var, form_of, variables_of, at_first, Scaled, expanded, scale_value, scaled_of, IsExpansion, forms_in, AreReduced, stays, IsNextRow, IsReduced, IsReducedOver}
use Rattle.variable_elimination.proofs.ExpandLaws.{value-IsLowest}
use Rattle.variable_elimination.proofs.ReductionLaws.{IsReduced-itself}
use Rattle.variable_elimination.proofs.RowSteps.{HasScale, all-scale}
use Rattle.variable_elimination.proofs.reducing.push_reduced.Goals as goal

-- the scale is 1 at the start
start : (row : Row) (one : Frac) → value_of one ≡ whole (pos 1) → scaled_of row (Some one) ≡ at_first row
start row one h = ap (λ (r : Rational). let s : Scaled = record { form = form_of row; scale = Some r } in s) h

next_row : (m : BTreeMap Var Row) (row made : Row) (one scale : Frac) (o : Option Frac) (rows new_rows : List Row) (scales new_scales : List Frac) → value_of one ≡ whole (pos 1) → o ≡ Some scale
    → IsExpansion row (expanded (forms_in m) (scaled_of row (Some one))) (made, o)
    → ((named : List Row) (first : Row) → AreReduced named m → IsReducedOver named first (scale_value (Some one)) row → IsReducedOver named first (scale_value o) made)
    → new_rows ≡ (if stays made then rows ++ made ∷ [] else rows) → new_scales ≡ (if stays made then scales ++ scale ∷ [] else scales) → IsNextRow m row rows new_rows scales new_scales
next_row m row made one scale o rows new_rows scales new_scales h is e r rs ss = record {
  made = made;
  scale = scale;
  name = e.name;
  sense = e.sense;
  scaled = ap (scaled_of made) (sym is) ∙ e.scaled ∙ ap (expanded (forms_in m)) (start row one h);
  rows_are = rs;
  scales_are = ss;
  reduced = λ named k.
      let first : IsReducedOver named row (Some (value_of one)) row = (value-IsLowest one, subst (λ s. IsReduced named row s row) (sym h) (IsReduced-itself named row)) in
      let all : IsReducedOver named row (Some (value_of scale)) made = subst (λ (p : Option Frac). IsReducedOver named row (scale_value p) made) is (r named row k first) in
      record { name = e.name; sense = e.sense; lowest = all.0; reduced = all.1 };
}

pub unreachable-requires : goal.unreachable-requires
unreachable-requires c =
    let row = c.args.row.now in
    let m = c.args.definitions.now in
    let s : Scaled = scaled_of row (Some c.fraction.result) in
    let e : scale_value c.in_ok-made.scale ≡ (expanded (forms_in m) s).scale = ap (λ (t : Scaled). t.scale) c.in_ok-made.ensures.made.scaled in
    subst HasScale (sym e ∙ ap scale_value c.in-None.is) (all-scale (forms_in m) (variables_of row.entries.items) s tt)

pub returns-in_ok-push-2-clause-pushed : goal.returns-in_ok-push-2-clause-pushed
returns-in_ok-push-2-clause-pushed c =
    let kept = c.args.kept.now.items in
    let scales = c.args.scales.now.items in
    let made = c.in_ok-made.made in
    let stay : stays made ≡ true = sym c.has_to_stay.ensures ∙ c.if-has_to_stay.true in
    next_row c.args.definitions.now c.args.row.now made c.fraction.result c.in-Some.scale c.in_ok-made.scale kept c.push.new.self.items scales c.push-then-has_to_stay.new.self.items c.fraction.ensures c.in-Some.is c.in_ok-made.ensures.made c.in_ok-made.ensures.reduced
    (c.in_ok-push.ensures.items ∙ sym (ap (λ b. if b then kept ++ made ∷ [] else kept) stay))
    (c.in_ok-push-2.ensures.items ∙ sym (ap (λ b. if b then scales ++ c.in-Some.scale ∷ [] else scales) stay))

pub returns-else-has_to_stay-clause-pushed : goal.returns-else-has_to_stay-clause-pushed
returns-else-has_to_stay-clause-pushed c =
    let kept = c.args.kept.now.items in
    let scales = c.args.scales.now.items in
    let made = c.in_ok-made.made in
    let go : stays made ≡ false = sym c.has_to_stay.ensures ∙ c.if-has_to_stay.false in
    next_row c.args.definitions.now c.args.row.now made c.fraction.result c.in-Some.scale c.in_ok-made.scale kept kept scales scales c.fraction.ensures c.in-Some.is c.in_ok-made.ensures.made c.in_ok-made.ensures.reduced
    (sym (ap (λ b. if b then kept ++ made ∷ [] else kept) go))
    (sym (ap (λ b. if b then scales ++ c.in-Some.scale ∷ [] else scales) go))
