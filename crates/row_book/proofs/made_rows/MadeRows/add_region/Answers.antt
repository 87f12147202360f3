use Rattle.row_book.proofs.Common.{◌∙◌, ◌+◌, ◌<◌, suc, drop, take, get_or, sym, subst, arith, flat_map, Index, at_r, places_of, HasStopped, entry_limit, AddsRows, AreFirstAsked, inners_of, instances_with}
use Rattle.row_book.proofs.Places.{list-middle}
use Rattle.row_book.proofs.RowsAddedLaws.{adds-nothing, loop-adds, loop-ends, loop-stops}
use Rattle.row_book.proofs.RowsOfCells.{first-adds, first-stops, first-within}
use Rattle.row_book.proofs.made_rows.MadeRows.add_region.Goals as goal

pub loop-outer-init : goal.loop-outer-init
loop-outer-init c = (c.deref-outer-items.ensures.value ∙ c.in_ok-outers.ensures, adds-nothing (places_of c.args.factors.now) c.args.model.now.facts c.args.self.now)

pub add_cells-requires-clause-indices : goal.add_cells-requires-clause-indices
add_cells-requires-clause-indices c =
    let d = c.args.model.now.facts in
    let eq = c.args.eq in
    let most = c.entries_to_pass-most.result in
    let outers = c.deref-outer-items.result.now in
    let i = c.loop-outer.outer-index in
    let first : AreFirstAsked d eq c.args.region most c.deref.result.now = subst (AreFirstAsked d eq c.args.region most) (sym c.deref.ensures.value) c.in_ok-cells.ensures in
    first-within d eq c.args.region most c.deref.result.now (take i outers) (get_or outers i (at_r 0)) (drop (suc i) outers) c.requires.equation c.requires.region first
    (sym c.loop-outer.invariant.0 ∙ list-middle outers i (at_r 0) c.loop-outer-test.true)

pub returns-in-Err-clause-stopped : goal.returns-in-Err-clause-stopped
returns-in-Err-clause-stopped c =
    let d = c.args.model.now.facts in
    let eq = c.args.eq in
    let most = c.entries_to_pass-most.result in
    let outers = c.deref-outer-items.result.now in
    let outer : Index = get_or outers c.loop-outer.outer-index (at_r 0) in
    let first : AreFirstAsked d eq c.args.region most c.deref.result.now = subst (AreFirstAsked d eq c.args.region most) (sym c.deref.ensures.value) c.in_ok-cells.ensures in
    subst (λ is. HasStopped (places_of c.args.factors.now) d c.args.self.now.entries (flat_map (instances_with d eq (inners_of d eq c.args.region)) is) c.in-Err.fail) c.loop-outer.invariant.0
    (loop-stops (places_of c.args.factors.now) d (instances_with d eq (inners_of d eq c.args.region)) outers c.loop-outer.outer-index (at_r 0) c.args.self.now c.loop-outer.self c.in-Err.fail
    c.loop-outer-test.true c.loop-outer.invariant.1
    (first-stops (places_of c.args.factors.now) d eq c.args.region most c.deref.result.now outer c.loop-outer.self.entries c.in-Err.fail first c.in-Err.ensures.stopped))

pub loop-outer-preserved : goal.loop-outer-preserved
loop-outer-preserved c =
    let d = c.args.model.now.facts in
    let eq = c.args.eq in
    let most = c.entries_to_pass-most.result in
    let outers = c.deref-outer-items.result.now in
    let outer : Index = get_or outers c.loop-outer.outer-index (at_r 0) in
    let first : AreFirstAsked d eq c.args.region most c.deref.result.now = subst (AreFirstAsked d eq c.args.region most) (sym c.deref.ensures.value) c.in_ok-cells.ensures in
    let past : entry_limit < c.loop-outer.self.entries + most = omega (arith, c.loop-outer.invariant.1.counted, c.entries_to_pass-most.ensures) in (
      c.loop-outer.invariant.0,
      loop-adds (places_of c.args.factors.now) d (instances_with d eq (inners_of d eq c.args.region)) outers c.loop-outer.outer-index (at_r 0) c.args.self.now c.loop-outer.self c.add_cells.new.self
          c.loop-outer-test.true c.loop-outer.invariant.1
          (first-adds (places_of c.args.factors.now) d eq c.args.region most c.deref.result.now outer c.loop-outer.self c.add_cells.new.self first past c.in-Ok.ensures.added),
    )

pub returns-clause-added : goal.returns-clause-added
returns-clause-added c =
    let d = c.args.model.now.facts in
    let eq = c.args.eq in
    subst (λ is. AddsRows (places_of c.args.factors.now) d (flat_map (instances_with d eq (inners_of d eq c.args.region)) is) c.args.self.now c.loop-outer.self) c.loop-outer.invariant.0
    (loop-ends (places_of c.args.factors.now) d (instances_with d eq (inners_of d eq c.args.region)) c.deref-outer-items.result.now c.loop-outer.outer-index c.args.self.now c.loop-outer.self c.loop-outer-test.false c.loop-outer.invariant.1)
