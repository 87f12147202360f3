-- Number by number, without the key's own.
use Rattle.variable_elimination.proofs.Common.{◌≡◌, ◌+◌, true, false, drop, rules, sym, ap, ap₂, ◌∙◌, subst, is_eq, InRange, all_fit, whole, plus, times, value_of, back_in_range, is_ok-false, term_formed, value_in, item_fits, values_in}
use Rattle.variable_elimination.proofs.ValueSteps.{next_entry, not_alike, sum_left, formed_left, skip-sum, skip-formed, take-sum, take-formed, stop-formed, end-formed}
use Rattle.variable_elimination.proofs.values.other_sum.Goals as goal
use Rattle.variable_elimination.proofs.values.other_sum.Goals.{in-Equal, in_default+in_ok-sum-in_default}

pub add_term-requires : goal.add_term-requires
add_term-requires g c =
    let e = c.entry-item.result in
    let fits : InRange e.1 = item_fits c.args.numbers.now c.loop-entry.entry-index e c.requires c.loop-entry-test.true c.entry-item.is in
    subst InRange (sym (back_in_range e.1 fits)) fits

pub returns-in_err-sum-in_default : goal.returns-in_err-sum-in_default
returns-in_err-sum-in_default g c =
    let cmp = g.K.Ord.cmp in
    let es = c.args.numbers.now in
    let i = c.loop-entry.entry-index in
    let value = value_in cmp (values_in c.args.values.now) in
    let s = value_of c.loop-entry.sum in
    let e = c.entry-item.result in
    let number = back_in_range e.1 (item_fits es i e c.requires c.loop-entry-test.true c.entry-item.is) in
    let wide : all_fit (term_formed s e.1 (value e.0)) ≡ false = ap₂ (λ n r. all_fit (term_formed s n r)) (sym number) (sym c.value_there.ensures) ∙ sym c.in_err-sum-in_default.ensures.refused in
    let apart : is_eq (cmp e.0 c.args.key) ≡ false = ap is_eq (sym c.cmp.ensures) ∙ not_alike c.cmp.result c.in_default.not-Equal in
    record {
      refused = is_ok-false c.from_residual.result c.from_residual.ensures.0
          ∙ sym (c.loop-entry.invariant.formed ∙ stop-formed cmp value c.args.key (drop i es) (drop (i + 1) es) e s (next_entry es i e c.loop-entry-test.true c.entry-item.is) apart wide);
      value = search rules;
    }

pub loop-entry-preserved : goal.loop-entry-preserved
loop-entry-preserved g c =
    let cmp = g.K.Ord.cmp in
    let es = c.args.numbers.now in
    let key = c.args.key in
    let i = c.loop-entry.entry-index in
    let value = value_in cmp (values_in c.args.values.now) in
    let s = value_of c.loop-entry.sum in
    let e = c.entry-item.result in
    let number = back_in_range e.1 (item_fits es i e c.requires c.loop-entry-test.true c.entry-item.is) in
    let is = next_entry es i e c.loop-entry-test.true c.entry-item.is in
    elim c.match-cmp.branch [
      | in-Equal w ↦
          let same : is_eq (cmp e.0 key) ≡ true = ap is_eq (sym c.cmp.ensures ∙ w.in-Equal.is) in
          record {
            sum = ap (λ r. sum_left cmp value key (value_of r) (drop (i + 1) es)) w.sum-is ∙ sym (skip-sum cmp value key (drop i es) (drop (i + 1) es) e s is same) ∙ c.loop-entry.invariant.sum;
            formed = c.loop-entry.invariant.formed ∙ skip-formed cmp value key (drop i es) (drop (i + 1) es) e s is same ∙ ap (λ r. formed_left cmp value key (value_of r) (drop (i + 1) es)) (sym w.sum-is);
          }
      | in_default+in_ok-sum-in_default w ↦
          let apart : is_eq (cmp e.0 key) ≡ false = ap is_eq (sym c.cmp.ensures) ∙ not_alike c.cmp.result w.in_default.not-Equal in
          let next : value_of c.match-cmp.sum ≡ plus s (times (whole e.1) (value e.0)) = ap value_of w.sum-is ∙ w.in_ok-sum-in_default.ensures.value ∙ ap₂ (λ n r. plus s (times (whole n) r)) number w.value_there.ensures in
          let fit : all_fit (term_formed s e.1 (value e.0)) ≡ true = ap₂ (λ n r. all_fit (term_formed s n r)) (sym number) (sym w.value_there.ensures) ∙ sym w.in_ok-sum-in_default.ensures.refused in
          record {
            sum = sym (take-sum cmp value key (drop i es) (drop (i + 1) es) e s is (value_of c.match-cmp.sum) apart next) ∙ c.loop-entry.invariant.sum;
            formed = c.loop-entry.invariant.formed ∙ take-formed cmp value key (drop i es) (drop (i + 1) es) e s is (value_of c.match-cmp.sum) apart next fit;
          }
    ]

pub returns-clause-refused : goal.returns-clause-refused
returns-clause-refused g c =
    sym (c.loop-entry.invariant.formed ∙ end-formed g.K.Ord.cmp (value_in g.K.Ord.cmp (values_in c.args.values.now)) c.args.key c.args.numbers.now c.loop-entry.entry-index (value_of c.loop-entry.sum) c.loop-entry-test.false)
