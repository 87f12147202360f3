-- So many copies of 0.
use Rattle.certificate_checker.proofs.Common.{◌≡◌, ℕ, ◌<◌, List, [], ◌∷◌, ◌++◌, Option, Some, None, length, replicate, get_or, sym, ap, ◌∙◌, arith, replicate_more, length-replicate, get_or-replicate, Frac, seen}
use Rattle.certificate_checker.proofs.columns.zeros.Goals as goal

pub loop-variable-preserved : goal.loop-variable-preserved
loop-variable-preserved c =
    let zero = c.fraction.result in
    c.in_ok-push.ensures.items ∙ ap (λ (xs : List (Option Frac)). xs ++ Some zero ∷ []) c.loop-variable.invariant ∙ replicate_more c.loop-variable.variable-index (Some zero)

pub returns-clause-many : goal.returns-clause-many
returns-clause-many c =
    ap length c.loop-variable.invariant ∙ length-replicate c.loop-variable.variable-index (Some c.fraction.result) ∙ omega (arith, c.loop-variable-test.false, c.loop-variable.auto.variable-index-end)

pub returns-clause-each : goal.returns-clause-each
returns-clause-each c k h =
    ap (λ (xs : List (Option Frac)). seen (get_or xs k None)) c.loop-variable.invariant
    ∙ ap seen (get_or-replicate c.loop-variable.variable-index k (Some c.fraction.result) None (omega (arith, h, c.loop-variable-test.false)))
    ∙ ap Some c.fraction.ensures
