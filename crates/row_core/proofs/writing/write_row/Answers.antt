-- The numbers formed are those of the definition, part by part, and the row means what its terms mean.
use Rattle.row_core.proofs.Common.{◌≡◌, pos, Bool, false, ◌∷◌, map, refl, sym, ap, ap₂, ◌∙◌, subst, to_z, of_z, w128, int_div, err_from_is_err_and, in_range, all_fit, value_of, back_in_range, numbers_of, variables_of, ascends, none_zero, var_cmp, seen, kept, row_divisor, entries_divided, written_right, common_denominator, cleared_entries, cleared_right, entries_over, numerator_over, written_entries, written_formed}
use Rattle.row_core.specs.declared.place.Place.TheVariants.{Row as AtRow}
use Rattle.row_core.proofs.DivisionLaws.{ArePositive}
use Rattle.row_core.proofs.MeaningLaws.{written-IsMultiple, multiple-SaysTheSame, multiple-sign}
use Rattle.row_core.proofs.RowWriting.{denominators_fit_all, denominators_stop, entries_stop, right_stops, all_parts_fit, ArePositive-seen, cleared_entries-ascend, cleared_entries-nonzero, written_entries-variables}
use Rattle.row_core.proofs.WritingSteps.{IsStop-more}
use Rattle.row_core.proofs.writing.write_row.Goals as goal

pub returns-in_default-clause-stopped : goal.returns-in_default-clause-stopped
returns-in_default-clause-stopped c =
    let right = value_of c.args.right in
    (refl, denominators_stop c.args.terms.now right (ap (λ ts. denominators_fit_all ts right) (sym c.as_slice-list.ensures.list) ∙ sym c.in_default.ensures.refused))

pub returns-in_err-entries-clause-stopped : goal.returns-in_err-entries-clause-stopped
returns-in_err-entries-clause-stopped c =
    let right = value_of c.args.right in
    let terms = c.args.terms.now in
    let list = c.as_slice-list.ensures.list in
    let denominator : to_z w128 (of_z w128 c.in-Ok.denominator) ≡ common_denominator (kept terms) right =
    back_in_range c.in-Ok.denominator c.in-Ok.ensures.range ∙ c.in-Ok.ensures.value ∙ ap (λ ts. common_denominator (kept ts) right) list in
    let some : Bool = all_fit (numbers_of (entries_over (to_z w128 (of_z w128 c.in-Ok.denominator)) (kept (map seen c.as_slice-list.result.now)))) in
    let wider : some ≡ false → all_fit (written_formed terms right) ≡ false =
    λ wide. entries_stop terms right (sym (ap₂ (λ z ts. all_fit (numbers_of (entries_over z (kept ts)))) denominator list) ∙ wide) in
    let stop = IsStop-more (AtRow c.args.name) some (all_fit (written_formed terms right)) c.in_err-entries.field-0.0 wider c.in_err-entries.ensures.stopped in
    let p = err_from_is_err_and c.from_residual.result c.from_residual.ensures.1 in
    rw (p.1, p.2) stop

pub returns-in_default-numerator-clause-stopped : goal.returns-in_default-numerator-clause-stopped
returns-in_default-numerator-clause-stopped c =
    let right = value_of c.args.right in
    let terms = c.args.terms.now in
    let list = c.as_slice-list.ensures.list in
    let denominator : to_z w128 (of_z w128 c.in-Ok.denominator) ≡ common_denominator (kept terms) right =
    back_in_range c.in-Ok.denominator c.in-Ok.ensures.range ∙ c.in-Ok.ensures.value ∙ ap (λ ts. common_denominator (kept ts) right) list in
    (refl, right_stops terms right (ap (λ z. in_range (numerator_over z right)) (sym denominator) ∙ sym c.in_default-numerator.ensures.refused))

pub reduced-requires-clause-ascending : goal.reduced-requires-clause-ascending
reduced-requires-clause-ascending c =
    let right = value_of c.args.right in
    let terms = c.args.terms.now in
    let list = c.as_slice-list.ensures.list in
    let denominator : to_z w128 (of_z w128 c.in-Ok.denominator) ≡ common_denominator (kept terms) right =
    back_in_range c.in-Ok.denominator c.in-Ok.ensures.range ∙ c.in-Ok.ensures.value ∙ ap (λ ts. common_denominator (kept ts) right) list in
    let entries : c.in_ok-entries.entries.items ≡ cleared_entries terms right =
    c.in_ok-entries.ensures.entries ∙ ap₂ (λ z ts. entries_over z (kept ts)) denominator list in
    ap (λ es. ascends var_cmp (variables_of es)) entries ∙ cleared_entries-ascend terms right c.as_slice-list.ensures.ascending

pub reduced-requires-clause-nonzero : goal.reduced-requires-clause-nonzero
reduced-requires-clause-nonzero c =
    let right = value_of c.args.right in
    let terms = c.args.terms.now in
    let list = c.as_slice-list.ensures.list in
    let denominator : to_z w128 (of_z w128 c.in-Ok.denominator) ≡ common_denominator (kept terms) right =
    back_in_range c.in-Ok.denominator c.in-Ok.ensures.range ∙ c.in-Ok.ensures.value ∙ ap (λ ts. common_denominator (kept ts) right) list in
    let entries : c.in_ok-entries.entries.items ≡ cleared_entries terms right =
    c.in_ok-entries.ensures.entries ∙ ap₂ (λ z ts. entries_over z (kept ts)) denominator list in
    let positive : ArePositive terms = subst ArePositive list (ArePositive-seen c.as_slice-list.result.now) in
    ap (λ es. none_zero (numbers_of es)) entries ∙ cleared_entries-nonzero terms right positive c.args.right.positive

pub returns-clause-fits : goal.returns-clause-fits
returns-clause-fits c =
    let right = value_of c.args.right in
    let terms = c.args.terms.now in
    let list = c.as_slice-list.ensures.list in
    let denominator : to_z w128 (of_z w128 c.in-Ok.denominator) ≡ common_denominator (kept terms) right =
    back_in_range c.in-Ok.denominator c.in-Ok.ensures.range ∙ c.in-Ok.ensures.value ∙ ap (λ ts. common_denominator (kept ts) right) list in
    all_parts_fit terms right
    (ap (λ ts. denominators_fit_all ts right) (sym list) ∙ sym c.in-Ok.ensures.refused)
    (sym (ap₂ (λ z ts. all_fit (numbers_of (entries_over z (kept ts)))) denominator list) ∙ c.in_ok-entries.ensures.fits)
    (ap (λ z. in_range (numerator_over z right)) (sym denominator) ∙ sym c.in-Ok-numerator.ensures.refused)

pub returns-clause-multiple : goal.returns-clause-multiple
returns-clause-multiple c =
    let right = value_of c.args.right in
    let terms = c.args.terms.now in
    let list = c.as_slice-list.ensures.list in
    let denominator : to_z w128 (of_z w128 c.in-Ok.denominator) ≡ common_denominator (kept terms) right =
    back_in_range c.in-Ok.denominator c.in-Ok.ensures.range ∙ c.in-Ok.ensures.value ∙ ap (λ ts. common_denominator (kept ts) right) list in
    let entries : c.in_ok-entries.entries.items ≡ cleared_entries terms right =
    c.in_ok-entries.ensures.entries ∙ ap₂ (λ z ts. entries_over z (kept ts)) denominator list in
    let rhs : to_z w128 (of_z w128 c.in-Ok-numerator.rhs) ≡ cleared_right terms right =
    back_in_range c.in-Ok-numerator.rhs c.in-Ok-numerator.ensures.range ∙ c.in-Ok-numerator.ensures.value ∙ ap (λ z. numerator_over z right) denominator in
    let divisor = ap₂ (λ z ys. row_divisor (z ∷ numbers_of ys)) rhs entries in
    let items : c.reduced.result.entries.items ≡ written_entries terms right = c.reduced.ensures.entries ∙ ap₂ entries_divided divisor entries in
    let whole : c.reduced.result.rhs ≡ written_right terms right = c.reduced.ensures.right_side ∙ ap₂ (λ z g. int_div z (pos g)) rhs divisor in
    let positive : ArePositive terms = subst ArePositive list (ArePositive-seen c.as_slice-list.result.now) in
    written-IsMultiple terms right c.reduced.result positive c.args.right.positive items whole

pub returns-clause-says : goal.returns-clause-says
returns-clause-says c = multiple-SaysTheSame c.args.terms.now (value_of c.args.right) c.reduced.result (returns-clause-multiple c)

pub returns-clause-signs : goal.returns-clause-signs
returns-clause-signs c = multiple-sign c.args.terms.now (value_of c.args.right) c.reduced.result (returns-clause-multiple c)

pub returns-clause-variables : goal.returns-clause-variables
returns-clause-variables c =
    let right = value_of c.args.right in
    let terms = c.args.terms.now in
    let list = c.as_slice-list.ensures.list in
    let denominator : to_z w128 (of_z w128 c.in-Ok.denominator) ≡ common_denominator (kept terms) right =
    back_in_range c.in-Ok.denominator c.in-Ok.ensures.range ∙ c.in-Ok.ensures.value ∙ ap (λ ts. common_denominator (kept ts) right) list in
    let entries : c.in_ok-entries.entries.items ≡ cleared_entries terms right =
    c.in_ok-entries.ensures.entries ∙ ap₂ (λ z ts. entries_over z (kept ts)) denominator list in
    let rhs : to_z w128 (of_z w128 c.in-Ok-numerator.rhs) ≡ cleared_right terms right =
    back_in_range c.in-Ok-numerator.rhs c.in-Ok-numerator.ensures.range ∙ c.in-Ok-numerator.ensures.value ∙ ap (λ z. numerator_over z right) denominator in
    let divisor = ap₂ (λ z ys. row_divisor (z ∷ numbers_of ys)) rhs entries in
    ap variables_of (c.reduced.ensures.entries ∙ ap₂ entries_divided divisor entries) ∙ written_entries-variables terms right
