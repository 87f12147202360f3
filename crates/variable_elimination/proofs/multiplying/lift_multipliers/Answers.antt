-- The reduced rows, and then the definitions; and what the multipliers keep.
use Rattle.variable_elimination.proofs.Common.{◌≡◌, List, [], map, sym, ap, ◌∙◌, subst, err_from_is_err_and, Rational, Step, first_wide, value_of, Frac, RowName, Place, valued, Reduced, definitions_of, defined, scaled_multipliers, scaled_steps, defined_multipliers, defined_steps, named_multipliers, multiplier_steps, CarriesBound, CarriesSum, names_of, values_in}
use Rattle.variable_elimination.proofs.EliminationLaws.{IsFirst-more}
use Rattle.variable_elimination.proofs.KeptLaws.{keeps_sum, keeps_bound}
use Rattle.variable_elimination.proofs.MultiplyingSteps.{both-fit, first-stops, second-stops}
use Rattle.variable_elimination.proofs.multiplying.lift_multipliers.Goals as goal

abbrev first_steps : Reduced → List Frac → List (Step Place)
first_steps reduced lambda = scaled_steps (names_of reduced.rows.items) (map value_of reduced.scales.items) (map value_of lambda)

abbrev first_made : Reduced → List Frac → List (RowName × Rational)
first_made reduced lambda = scaled_multipliers (names_of reduced.rows.items) (map value_of reduced.scales.items) (map value_of lambda) []

pub returns-in_err-multipliers-clause-stopped : goal.returns-in_err-multipliers-clause-stopped
returns-in_err-multipliers-clause-stopped c =
    let reduced = c.args.reduced.now in
    let lambda = c.args.lambda.now in
    let ds = definitions_of c.args.rows.now c.args.defs.now in
    let a = first_steps reduced lambda in
    let b = defined_steps c.args.with_cost c.args.rows.now ds (first_made reduced lambda) in
    let stop = IsFirst-more (first_wide a) (first_wide (multiplier_steps c.args.with_cost c.args.rows.now ds (names_of reduced.rows.items) (map value_of reduced.scales.items) (map value_of lambda))) c.in_err-multipliers.field-0.0 (λ p h. first-stops a b p h) c.in_err-multipliers.ensures.stopped in
    let p = err_from_is_err_and c.from_residual-in_err-multipliers.result c.from_residual-in_err-multipliers.ensures.1 in
    rw (p.1, p.2) stop

pub returns-in_err-add_defined-clause-stopped : goal.returns-in_err-add_defined-clause-stopped
returns-in_err-add_defined-clause-stopped c =
    let reduced = c.args.reduced.now in
    let lambda = c.args.lambda.now in
    let ds = definitions_of c.args.rows.now c.args.defs.now in
    let a = first_steps reduced lambda in
    let b = defined_steps c.args.with_cost c.args.rows.now ds (values_in c.in_ok-multipliers.multipliers) in
    let same : values_in c.in_ok-multipliers.multipliers ≡ first_made reduced lambda = c.in_ok-multipliers.ensures.made in
    let stop = IsFirst-more (first_wide b) (first_wide (multiplier_steps c.args.with_cost c.args.rows.now ds (names_of reduced.rows.items) (map value_of reduced.scales.items) (map value_of lambda))) c.in_err-add_defined.field-0.0
    (λ p h. second-stops a (defined_steps c.args.with_cost c.args.rows.now ds (first_made reduced lambda)) p c.in_ok-multipliers.ensures.fits (ap (λ vs. first_wide (defined_steps c.args.with_cost c.args.rows.now ds vs)) (sym same) ∙ h))
    c.in_err-add_defined.ensures.stopped in
    let p = err_from_is_err_and c.from_residual-in_err-add_defined.result c.from_residual-in_err-add_defined.ensures.1 in
    rw (p.1, p.2) stop

pub returns-clause-multipliers : goal.returns-clause-multipliers
returns-clause-multipliers c =
    c.of.ensures ∙ ap (λ (es : List (RowName × Frac)). map valued es) c.in_ok-entries.ensures.same ∙ c.in_ok-add_defined.ensures.made
    ∙ ap (defined_multipliers c.args.with_cost c.args.rows.now (definitions_of c.args.rows.now c.args.defs.now)) c.in_ok-multipliers.ensures.made

pub returns-clause-bounds : goal.returns-clause-bounds
returns-clause-bounds c costs whole =
    let rows = c.args.rows.now in
    let defs = c.args.defs.now in
    let reduced = c.args.reduced.now in
    let lambda = c.args.lambda.now in
    let made = returns-clause-multipliers c in
    subst (CarriesBound rows (defined (definitions_of rows defs)) reduced lambda)
    (sym (made ∙ ap (λ b. named_multipliers b rows (definitions_of rows defs) (names_of reduced.rows.items) (map value_of reduced.scales.items) (map value_of lambda)) costs))
    (λ s y l positive over from. keeps_bound rows defs reduced lambda c.requires.same c.requires.triangular c.requires.ordered c.requires.counted whole s y l positive over from)

pub returns-clause-refutes : goal.returns-clause-refutes
returns-clause-refutes c costs part =
    let rows = c.args.rows.now in
    let defs = c.args.defs.now in
    let reduced = c.args.reduced.now in
    let lambda = c.args.lambda.now in
    let made = returns-clause-multipliers c in
    subst (CarriesSum rows (defined (definitions_of rows defs)) reduced lambda)
    (sym (made ∙ ap (λ b. named_multipliers b rows (definitions_of rows defs) (names_of reduced.rows.items) (map value_of reduced.scales.items) (map value_of lambda)) costs))
    (λ s y l positive over from. keeps_sum rows defs reduced lambda c.requires.same c.requires.triangular c.requires.ordered c.requires.counted part s y l positive over from)

pub returns-clause-fits : goal.returns-clause-fits
returns-clause-fits c =
    let reduced = c.args.reduced.now in
    let lambda = c.args.lambda.now in
    let ds = definitions_of c.args.rows.now c.args.defs.now in
    both-fit (first_steps reduced lambda) (defined_steps c.args.with_cost c.args.rows.now ds (first_made reduced lambda)) c.in_ok-multipliers.ensures.fits
    (ap (λ vs. first_wide (defined_steps c.args.with_cost c.args.rows.now ds vs)) (sym c.in_ok-multipliers.ensures.made) ∙ c.in_ok-add_defined.ensures.fits)
