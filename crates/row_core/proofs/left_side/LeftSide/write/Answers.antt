-- The row is written of the terms and the right side of the equation, where both were made.
use Rattle.row_core.proofs.Common.{◌≡◌, sym, ap, ◌∙◌, Some, None, Rational, value_of, Side, known, no_terms, with_amounts, only_if}
use Rattle.row_core.specs.declared.place.Place.TheVariants.{Row as AtRow}
use Rattle.row_core.proofs.AmountLaws.{stops-without_right, stops-without_left, whole-is, IsWritten-made}
use Rattle.row_core.proofs.left_side.LeftSide.write.Goals as goal

pub returns-in_default : goal.returns-in_default
returns-in_default c name e h s k =
    let side : Side = record { name = c.self.inside.name; terms = only_if c.self.inside.fits c.self.inside.terms } in
    let p = stops-without_right name e side (c.self.view_is ∙ h) (ap known (sym c.in_default.is) ∙ k) in
    (ap AtRow p.0, p.1)

pub returns-then-not-self : goal.returns-then-not-self
returns-then-not-self c name e h s k =
    let at = c.self.inside.name in
    let none : record { name = at; terms = None } ≡ with_amounts e.terms (no_terms name) =
    ap (λ b. record { name = at; terms = only_if b c.self.inside.terms }) (sym c.if-not-self.true) ∙ c.self.view_is ∙ h in
    let p = stops-without_left name e at (known c.args.right) none k in
    (ap AtRow p.0, p.1)

pub returns : goal.returns
returns c name e h s k =
    let at = c.self.inside.name in
    let terms = c.self.inside.terms in
    let right : Rational = value_of c.in-Some.right in
    let made : record { name = at; terms = Some terms } ≡ with_amounts e.terms (no_terms name) =
    ap (λ b. record { name = at; terms = only_if b terms }) (sym c.if-not-self.false) ∙ c.self.view_is ∙ h in
    let m = whole-is name e at terms right made (ap known (sym c.in-Some.is) ∙ k) in
    let w = c.write_row.ensures in
    IsWritten-made name e at terms right c.args.sense c.write_row.result m s w.name w.sense w.entries w.right_side w.says w.signs w.fits w.stopped
