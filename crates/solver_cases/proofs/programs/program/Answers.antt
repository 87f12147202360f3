use Rattle.std.proofs.Common.{◌≤◌, ℤ, length, refl, sym, subst, arith, to_z, of_z}
use Rattle.std.specs.Int.{w128}
use Rattle.exact_num.specs.Range.{InRange}
use Rattle.exact_num.proofs.RangeLaws.{back_in_range}
use Rattle.solver_cases.proofs.ProgramLaws.{made-IsReady}
use Rattle.solver_cases.proofs.programs.program.Goals as goal

read : ℤ → ℤ
read z = to_z w128 (of_z w128 z)

read_fits : (z : ℤ) → InRange z → InRange (read z)
unfolding read
read_fits z h = subst InRange (sym (back_in_range z h)) h

pub returns : goal.returns
unfolding read
returns c =
    let few : length c.in_ok-given.given.items ≤ 100 = omega (arith, c.len.ensures, c.in_ok-given.given.ok.0) in
    made-IsReady _ (read c.cost_number-first.result) (read c.cost_number-second.result) (read c.cost_number-third.result) c.in_ok-from_array.ensures.items c.in_ok-from_array-2.ensures.items refl refl c.in_ok-given.ensures
    (read_fits c.cost_number-first.result c.cost_number-first.ensures) (read_fits c.cost_number-second.result c.cost_number-second.ensures) (read_fits c.cost_number-third.result c.cost_number-third.ensures)
    few
