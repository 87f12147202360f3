-- One position after another.
use Rattle.equation_parts.proofs.Common.{ℕ, List, ◌+◌, refl, sym, ap, ap₂, ◌∙◌, get_or, drop, at_drop_all, at_drop_more, Side, with_number, with_amounts, each, less}
use Rattle.equation_parts.proofs.shapes.take_away_each.Goals as goal

pub loop-position-init : goal.loop-position-init
loop-position-init g c of gives = refl

pub loop-position-preserved : goal.loop-position-preserved
loop-position-preserved g c of gives =
    let is = c.args.positions.now in
    let i = c.loop-position.position-index in
    let side : Side = c.loop-position.left in
    let with_rest : List ℕ → Side → Side = λ rest before. with_amounts (each rest (λ k. less (of k))) before in
    c.loop-position.invariant of gives
    ∙ at_drop_more (λ rest. with_rest rest side) is i 0 c.loop-position-test.true
    ∙ ap (with_rest (drop (i + 1) is))
    (ap₂ (λ v n. with_number v n side) (sym (gives (get_or is i 0) c.variable.result c.variable.ensures)) (sym c.minus_one.ensures)
    ∙ sym c.in_ok-add.ensures)

pub returns : goal.returns
returns g c of gives =
    let side : Side = c.loop-position.left in
    sym
    (c.loop-position.invariant of gives
    ∙ at_drop_all (λ rest. with_amounts (each rest (λ k. less (of k))) side) c.args.positions.now c.loop-position.position-index c.loop-position-test.false)
