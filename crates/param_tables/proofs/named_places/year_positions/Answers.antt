use Rattle.param_tables.proofs.Common.{◌≡◌, ℕ, ◌<◌, false, [], length, ap, inl, inr, arith, members, year, slice_index_or, ◌∙◌}
use Rattle.param_tables.specs.Changes.{Years, is_named}
use Rattle.param_tables.proofs.AscendingLaws.{range_kept, range_left}
use Rattle.param_tables.proofs.NamedLaws.{year_between, year_outside}
use Rattle.param_tables.proofs.named_places.year_positions.Goals as goal
use Rattle.param_tables.proofs.named_places.year_positions.Goals.{then-first-number+then-number-last+in_ok-push, else-first-number, else-first-number-via-then-first-number+else-number-last, else-first-number-via-else-first-number}

pub loop-i-preserved : goal.loop-i-preserved
loop-i-preserved c =
    let names = members c.args.sets.now year in
    let i = c.loop-i.i in
    let test = λ (j : ℕ). is_named (Years c.args.first c.args.last) (slice_index_or names j []) in
    let below : i < length names = omega (arith, c.loop-i-test.true, c.count-i-end.ensures.count) in
    let number = c.year-number.ensures.number in
    elim c.if-first-number.branch [
      | then-first-number+then-number-last+in_ok-push w ↦
          ap (λ v. v.items) w.positions-is
          ∙ w.in_ok-push.ensures.items
          ∙ range_kept test i c.loop-i.positions.items (year_between names i c.args.first c.args.last c.year-number.result below number w.if-first-number.true w.if-number-last.true) c.loop-i.invariant
      | else-first-number w ↦
          let fails : test i ≡ false = elim w.else-first-number.branch [
            | else-first-number-via-then-first-number+else-number-last w' ↦ year_outside names i c.args.first c.args.last c.year-number.result below number (inr w'.if-number-last.false)
            | else-first-number-via-else-first-number w' ↦ year_outside names i c.args.first c.args.last c.year-number.result below number (inl w'.if-first-number.false)
          ] in
          ap (λ v. v.items) w.positions-is ∙ range_left test i c.loop-i.positions.items fails c.loop-i.invariant
    ]
