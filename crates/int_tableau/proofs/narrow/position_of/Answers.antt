-- Half of what is left is passed over.
use Rattle.int_tableau.proofs.Common.{ℕ, ◌+◌, ◌-◌, ◌/◌, ◌<◌, ◌≤◌, length, get_or, take, drop, sym, ap, ◌∙◌, subst, arith, add-one, at, IsSparse}
use Rattle.int_tableau.proofs.DivisionLaws.{no_entry}
use Rattle.int_tableau.proofs.LineLaws.{at-after, IsSparse-drop, IsSparse-take}
use Rattle.int_tableau.proofs.narrow.position_of.Goals as goal

pub loop-low-preserved-then-entries-middle : goal.loop-low-preserved-then-entries-middle
loop-low-preserved-then-entries-middle c =
    let xs = c.args.entries.now in
    let low = c.loop-low.low in
    let high = c.loop-low.high in
    let middle : ℕ = low + (high - low) / 2 in
    let less : low < high = c.loop-low-test.true in
    let within : high ≤ length xs = c.loop-low.invariant.within in
    let below : middle < high = omega arith in
    let before : (get_or xs middle no_entry).0 < c.args.column = c.if-entries-middle.true in
    record {
      order = omega arith;
      within = within;
      before = subst (λ n. IsSparse 0 c.args.column (take n xs)) (sym (add-one middle)) (IsSparse-take 0 c.args.columns xs middle c.args.column c.requires (omega arith) before);
      rest = c.loop-low.invariant.rest;
      same = λ d h. at-after 0 c.args.columns xs middle c.args.column d c.requires (omega arith) before h ∙ ap (λ n. at (drop n xs) d) (sym (add-one middle));
    }

pub loop-low-preserved : goal.loop-low-preserved
loop-low-preserved c =
    let xs = c.args.entries.now in
    let low = c.loop-low.low in
    let high = c.loop-low.high in
    let middle : ℕ = low + (high - low) / 2 in
    let less : low < high = c.loop-low-test.true in
    let within : high ≤ length xs = c.loop-low.invariant.within in
    let below : middle < high = omega arith in
    let from : c.args.column ≤ (get_or xs middle no_entry).0 = c.if-entries-middle.false in
    record {
      order = omega arith;
      within = omega arith;
      before = c.loop-low.invariant.before;
      rest = IsSparse-drop 0 c.args.columns xs middle c.args.column c.requires (omega arith) from;
      same = c.loop-low.invariant.same;
    }
