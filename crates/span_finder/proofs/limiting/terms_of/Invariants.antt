-- With the variables that are left, what is gathered and what is formed is that of all variables.
use Rattle.span_finder.proofs.Common.{◌≡◌, drop, all_fit, gathered, gathered_formed, gathered_formed_onto, gathered_onto, cost_terms}
use Rattle.span_finder.proofs.limiting.terms_of.Given as goal

abbrev pub invariant-loop-var : goal.invariant-loop-var
invariant-loop-var l =
    (gathered_onto l.terms (cost_terms (drop l.var-index l.vars)) ≡ gathered (cost_terms l.vars))
    × (all_fit (gathered_formed_onto l.terms (cost_terms (drop l.var-index l.vars))) ≡ all_fit (gathered_formed (cost_terms l.vars)))
