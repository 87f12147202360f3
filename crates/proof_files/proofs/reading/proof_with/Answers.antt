-- What the values say that there are.
use Rattle.proof_files.proofs.Common.{◌≡◌, None, refl, sym, subst, ◌∙◌, first_without, row_fields, variable_fields, first_told, direction_fields, AreAllTold, AreTold, HasNoPlan}
use Rattle.proof_files.proofs.ToldProofs.{all_told_with, nothing_named, something_named, told_with}
use Rattle.proof_files.proofs.reading.proof_with.Goals.{else-has_none-via-then-has_none+else-has_none-2, else-has_none-via-else-has_none}
use Rattle.proof_files.proofs.reading.proof_with.Goals as goal

pub returns-then-has_none-2-clause-proof : goal.returns-then-has_none-2-clause-proof
returns-then-has_none-2-clause-proof c sets rows of_plan of_rows of_direction =
    let vars = c.args.vars.now in
    let names = c.args.names.now in (
      record {
        no_variable = nothing_named (variable_fields sets) rows vars c.args.of_plan.now of_plan (sym c.has_none.ensures ∙ c.if-has_none.true);
        no_direction = nothing_named (direction_fields sets) rows vars c.args.of_direction.now of_direction (sym c.has_none-then-has_none.ensures ∙ c.if-has_none-2.true);
      },
      subst (AreTold (row_fields sets) rows names) (sym c.in_ok-multipliers.ensures) (told_with (row_fields sets) rows names c.args.of_rows.now of_rows),
    )

pub returns-in-Some-clause-missing : goal.returns-in-Some-clause-missing
returns-in-Some-clause-missing c sets rows of_plan of_rows of_direction =
    let vars = c.args.vars.now in
    let planned : HasNoPlan sets vars rows → ⊥ = elim c.else-has_none.branch [
      | else-has_none-via-then-has_none+else-has_none-2 w ↦ λ none. something_named (direction_fields sets) rows vars c.args.of_direction.now of_direction (sym w.has_none-then-has_none.ensures ∙ w.if-has_none-2.false) c.requires.changes none.no_direction
      | else-has_none-via-else-has_none w ↦ λ none. something_named (variable_fields sets) rows vars c.args.of_plan.now of_plan (sym c.has_none.ensures ∙ w.if-has_none.false) c.requires.values none.no_variable
    ] in
    record {
      planned = planned;
      v = c.in-Some.variable;
      first = first_told (variable_fields sets) rows vars c.args.of_plan.now of_plan ∙ sym c.in-Some.ensures;
      missing = refl;
    }

pub returns-then-has_none-3-clause-proof : goal.returns-then-has_none-3-clause-proof
returns-then-has_none-3-clause-proof c sets rows of_plan of_rows of_direction =
    let vars = c.args.vars.now in
    let names = c.args.names.now in
    let planned : HasNoPlan sets vars rows → ⊥ = elim c.else-has_none.branch [
      | else-has_none-via-then-has_none+else-has_none-2 w ↦ λ none. something_named (direction_fields sets) rows vars c.args.of_direction.now of_direction (sym w.has_none-then-has_none.ensures ∙ w.if-has_none-2.false) c.requires.changes none.no_direction
      | else-has_none-via-else-has_none w ↦ λ none. something_named (variable_fields sets) rows vars c.args.of_plan.now of_plan (sym c.has_none.ensures ∙ w.if-has_none.false) c.requires.values none.no_variable
    ] in
    let undirected = nothing_named (direction_fields sets) rows vars c.args.of_direction.now of_direction (sym c.has_none-2.ensures ∙ c.if-has_none-3.true) in
    let none : first_without vars c.args.of_plan.now ≡ None = sym c.first_without.ensures ∙ c.in_default.is in (
      λ unplanned. planned (record { no_variable = unplanned; no_direction = undirected }),
      undirected,
      subst (AreAllTold (variable_fields sets) rows vars) (sym c.in_ok-plan.ensures) (all_told_with (variable_fields sets) rows vars c.args.of_plan.now of_plan c.requires.values none),
      subst (AreTold (row_fields sets) rows names) (sym c.in_ok-multipliers.ensures) (told_with (row_fields sets) rows names c.args.of_rows.now of_rows),
    )

pub returns-else-has_none-3-clause-proof : goal.returns-else-has_none-3-clause-proof
returns-else-has_none-3-clause-proof c sets rows of_plan of_rows of_direction =
    let vars = c.args.vars.now in
    let none : first_without vars c.args.of_plan.now ≡ None = sym c.first_without.ensures ∙ c.in_default.is in (
      something_named (direction_fields sets) rows vars c.args.of_direction.now of_direction (sym c.has_none-2.ensures ∙ c.if-has_none-3.false) c.requires.changes,
      subst (AreAllTold (variable_fields sets) rows vars) (sym c.in_ok-plan.ensures) (all_told_with (variable_fields sets) rows vars c.args.of_plan.now of_plan c.requires.values none),
      subst (AreTold (direction_fields sets) rows vars) (sym c.in_ok-direction.ensures) (told_with (direction_fields sets) rows vars c.args.of_direction.now of_direction),
    )
