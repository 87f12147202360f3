-- The values of each sort are those that were taken for its names.
use Rattle.proof_files.proofs.Common.{ap, sym, subst, ◌∙◌, drop, take, List, length, Option, Frac, row_names, variable_names, AreTaken, direction_names}
use Rattle.proof_files.proofs.PartLaws.{parts_taken}
use Rattle.proof_files.proofs.reading.proof_of.Goals as goal

pub returns-clause-proof : goal.returns-clause-proof
returns-clause-proof c sets rows taken =
    let vars = c.args.vars.now in
    let names = c.args.names.now in
    let parts = parts_taken sets vars names rows c.args.values.now taken in
    let others = c.split_at.ensures.back in
    c.proof_with.ensures.proof sets rows
    (subst (AreTaken (variable_names sets vars) rows) (sym c.split_at.ensures.front) parts.of_plan)
    (subst (AreTaken (row_names sets names) rows) (sym (c.split_at-2.ensures.front ∙ ap (λ (vs : List (Option Frac)). take (length names) vs) others)) parts.of_rows)
    (subst (AreTaken (direction_names sets vars) rows) (sym (c.split_at-2.ensures.back ∙ ap (λ (vs : List (Option Frac)). drop (length names) vs) others)) parts.of_direction)

pub returns-clause-missing : goal.returns-clause-missing
returns-clause-missing c sets rows taken =
    let vars = c.args.vars.now in
    let names = c.args.names.now in
    let parts = parts_taken sets vars names rows c.args.values.now taken in
    let others = c.split_at.ensures.back in
    c.proof_with.ensures.missing sets rows
    (subst (AreTaken (variable_names sets vars) rows) (sym c.split_at.ensures.front) parts.of_plan)
    (subst (AreTaken (row_names sets names) rows) (sym (c.split_at-2.ensures.front ∙ ap (λ (vs : List (Option Frac)). take (length names) vs) others)) parts.of_rows)
    (subst (AreTaken (direction_names sets vars) rows) (sym (c.split_at-2.ensures.back ∙ ap (λ (vs : List (Option Frac)). drop (length names) vs) others)) parts.of_direction)
