use Rattle.mathprog_data.proofs.Common.{◌-◌, ◌≤◌, length, sym, ap, arith, get_or_past}
use Rattle.model_sets.specs.Params.{Param, no_param, params}
use Rattle.mathprog_data.proofs.subscripts.subscripts_of.Goals as goal

pub returns-else-from-le-PARAM_COUNT : goal.returns-else-from-le-PARAM_COUNT
returns-else-from-le-PARAM_COUNT c =
    let past : length params ≤ c.args.param - 1 = omega arith in
    sym (ap (λ (p : Param). length p.subscripts) (get_or_past params (c.args.param - 1) no_param past))
