use Rattle.param_tables.proofs.Common.{◌≡◌, ℕ, ◌+◌, true, false, ◌++◌, length, filter, filter_map, get_or, get_or_default, take, sym, ap, ap₂, ◌∙◌, arith, err_from_is_err_and, first_of}
use Rattle.std.specs.Option.{option_to_list}
use Rattle.param_tables.proofs.PutLaws.{count_more, filter_map-more, first_kept, stop_first}
use Rattle.param_tables.specs.OpenTables.{fault_by, put_by, rounds_at, rule_of}
use Rattle.param_tables.proofs.changed_table.puts_of.Goals as goal
use Rattle.param_tables.proofs.changed_table.puts_of.Goals.{then-branch, else-branch}

pub returns-in_err-add_put-clause-refused : goal.returns-in_err-add_put-clause-refused
returns-in_err-add_put-clause-refused c =
    let places = c.args.places.now in
    let i = c.loop-place.place-index in
    let place = get_or places i 0 in
    let f = fault_by (rule_of c.args.change.now) c.args.table.now in
    let p = err_from_is_err_and c.from_residual.result c.from_residual.ensures.1 in
    rw (p.1, p.2) (stop_first (f place) (first_of (filter_map f places)) c.in_err-add_put.field-0.0
    (λ first found. first_kept f places i place first c.loop-place-test.true (get_or_default places i place 0 c.loop-place-test.true) c.loop-place.invariant.free found)
    c.in_err-add_put.ensures.refused)

none_more : (n : ℕ) → n ≡ n + 0
none_more n = omega arith

pub loop-place-preserved : goal.loop-place-preserved
loop-place-preserved c =
    let places = c.args.places.now in
    let i = c.loop-place.place-index in
    let place = get_or places i 0 in
    let change = rule_of c.args.change.now in
    let table = c.args.table.now in
    let below = c.loop-place-test.true in
    let at : get_or places i place ≡ place = get_or_default places i place 0 below in
    record {
      puts = c.in_ok-add_put.ensures.put ∙ ap (λ ps. ps ++ option_to_list (put_by change table place)) c.loop-place.invariant.puts ∙ sym (filter_map-more (put_by change table) places i place below at);
      rounded = elim c.if-branch.branch [
        | then-branch w ↦ w.rounded-is ∙ ap (λ n. n + 1) c.loop-place.invariant.rounded ∙ sym (count_more (rounds_at change table) places i place true below at (sym c.in_ok-add_put.ensures.rounded ∙ w.if-branch.true))
        | else-branch w ↦ w.rounded-is ∙ c.loop-place.invariant.rounded ∙ none_more (length (filter (rounds_at change table) (take i places))) ∙ sym (count_more (rounds_at change table) places i place false below at (sym c.in_ok-add_put.ensures.rounded ∙ w.if-branch.false))
      ];
      few = elim c.if-branch.branch [
        | then-branch w ↦ omega (arith, c.loop-place.invariant.few, w.rounded-is)
        | else-branch w ↦ omega (arith, c.loop-place.invariant.few, w.rounded-is)
      ];
      free = filter_map-more (fault_by change table) places i place below at ∙ ap₂ (λ ps o. ps ++ option_to_list o) c.loop-place.invariant.free c.in_ok-add_put.ensures.accepted;
    }
