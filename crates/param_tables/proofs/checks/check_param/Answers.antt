use Rattle.param_tables.proofs.Common.{◌≡◌, [], None, Some, length, get_or, sym, ap, ◌∙◌, subst, indices_of, indices_over, IsPlaceOf, ArePositions, IsIndexOf, names_at, names_over, range_of, AtIndex, value_fault, entries_of, value_else}
use Rattle.param_tables.proofs.RefusalLaws.{param_refusals-none, param_refusals-first, same_faults}
use Rattle.param_tables.proofs.checks.check_param.Goals as goal

pub returns-in_default-clause-accepted : goal.returns-in_default-clause-accepted
returns-in_default-clause-accepted c d same for =
    let p = c.args.param in
    let size : c.index_count-size.result ≡ length (indices_of d.sets p) = c.index_count-size.ensures.count ∙ ap (λ ks. length (indices_over c.args.sets.now ks)) c.subscript_sets-subscripts.ensures.sets ∙ ap (λ sets. length (indices_of sets p)) (sym same) in
    param_refusals-none d p c.args.table.now for
    (same_faults c.range_of.result (range_of p) c.missing_fault-missing.result (value_fault (range_of p) (value_else p c.args.table.now.default)) c.index_count-size.result (length (indices_of d.sets p)) (entries_of c.args.table.now) None c.range_of.ensures c.missing_fault-missing.ensures size c.in_default.ensures)

pub returns-clause-refused : goal.returns-clause-refused
returns-clause-refused c d same for =
    let p = c.args.param in
    let sets = c.args.sets.now in
    let found = c.in-Some.found in
    let index = c.in_ok-index.index.items in
    let ks : c.subscript_sets-subscripts.result.now ≡ _ = c.subscript_sets-subscripts.ensures.sets in
    let size : c.index_count-size.result ≡ length (indices_of d.sets p) = c.index_count-size.ensures.count ∙ ap (λ js. length (indices_over sets js)) ks ∙ ap (λ all. length (indices_of all p)) (sym same) in
    let first = same_faults c.range_of.result (range_of p) c.missing_fault-missing.result (value_fault (range_of p) (value_else p c.args.table.now.default)) c.index_count-size.result (length (indices_of d.sets p)) (entries_of c.args.table.now) (Some found) c.range_of.ensures c.missing_fault-missing.ensures size c.in-Some.ensures in
    let within : IsIndexOf sets p index = subst (λ js. ArePositions sets js index) ks c.in_ok-index.ensures.within in
    let at : IsPlaceOf sets _ (names_at sets p index) found.place = subst (λ js. IsPlaceOf sets js (names_over sets js index) found.place) ks c.in_ok-index.ensures.place in (
      param_refusals-first d p c.args.table.now for found first
          ∙ ap (λ all. Some (AtIndex found.fault p (get_or (indices_of all p) found.place []))) same
          ∙ ap (λ names. Some (AtIndex found.fault p names)) at.at
          ∙ ap (λ r. Some r) (sym (c.refusal_at.ensures.told sets)),
      c.refusal_at.ensures.cell sets (c.requires.listed, within),
    )
