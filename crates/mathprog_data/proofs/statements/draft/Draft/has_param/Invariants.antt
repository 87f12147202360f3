use Rattle.mathprog_data.proofs.Common.{◌≡◌, drop, map, nat_eq, list_any, param_told, ParamBlock}
use Rattle.mathprog_data.proofs.statements.draft.Draft.has_param.Given as goal

abbrev pub invariant-loop-block : goal.invariant-loop-block
invariant-loop-block l =
    list_any (λ (b : ParamBlock). nat_eq l.param b.param) (map param_told (drop l.block-index l.self.params.items))
    ≡ list_any (λ (b : ParamBlock). nat_eq l.param b.param) (map param_told l.self.params.items)
