-- A line with an entry in the column is combined, another one stays.
use Rattle.int_tableau.proofs.Common.{◌≡◌, ◌≢◌, ℤ, pos, Bool, sym, ap, ap₂, ◌∙◌, subst, to_z, of_z, w128, err_from_is_err_and, InRange, all_fit, back_in_range, all_fit-nil}
use Rattle.written_method.specs.Lines.{numbers_of, line_less, all_less_formed, lowest_line, factor_of, cleared_formed}
use Rattle.int_tableau.proofs.LineLaws.{refused-more, cleared-some, cleared_formed-some, cleared_formed-none}
use Rattle.int_tableau.proofs.line.SparseLine.clear.Goals as goal

pub returns-in_err-subtract-clause-stopped : goal.returns-in_err-subtract-clause-stopped
returns-in_err-subtract-clause-stopped c =
    let p : ℤ = c.entry-p.result in
    let q : ℤ = c.entry-q.result in
    let p_fits : InRange p = subst InRange (sym c.entry-p.ensures.value) c.entry-p.ensures.range in
    let q_fits : InRange q = subst InRange (sym c.entry-q.ensures.value) c.entry-q.ensures.range in
    let some : q ≢ pos 0 = λ e. c.if-q-ne0.true (ap (λ w. of_z w128 w) e) in
    let x : to_z w128 (of_z w128 c.factors-a.result.0) ≡ factor_of p q = back_in_range c.factors-a.result.0 c.factors-a.ensures.first_range ∙ c.factors-a.ensures.first ∙ ap₂ factor_of (back_in_range p p_fits) (back_in_range q q_fits) in
    let y : to_z w128 (of_z w128 c.factors-a.result.1) ≡ factor_of q p = back_in_range c.factors-a.result.1 c.factors-a.ensures.second_range ∙ c.factors-a.ensures.second ∙ ap₂ (λ s t. factor_of t s) (back_in_range p p_fits) (back_in_range q q_fits) in
    let formed : all_fit (cleared_formed c.args.column c.args.pivot.now c.args.self.now) ≡ all_fit (all_less_formed (to_z w128 (of_z w128 c.factors-a.result.0)) (to_z w128 (of_z w128 c.factors-a.result.1)) (numbers_of c.args.self.now) (numbers_of c.args.pivot.now)) =
    ap all_fit (cleared_formed-some c.args.column c.args.pivot.now c.args.self.now p q c.entry-p.ensures.value c.entry-q.ensures.value some)
    ∙ ap₂ (λ s t. all_fit (all_less_formed s t (numbers_of c.args.self.now) (numbers_of c.args.pivot.now))) (sym x) (sym y) in
    let some_fit : Bool = all_fit (all_less_formed (to_z w128 (of_z w128 c.factors-a.result.0)) (to_z w128 (of_z w128 c.factors-a.result.1)) (numbers_of c.args.self.now) (numbers_of c.args.pivot.now)) in
    let stop = refused-more some_fit (all_fit (cleared_formed c.args.column c.args.pivot.now c.args.self.now)) c.in_err-subtract.field-0.0 (λ w. formed ∙ w) c.in_err-subtract.ensures.stopped in
    let e = err_from_is_err_and c.from_residual.result c.from_residual.ensures.1 in
    rw (e.1, e.2) stop

pub returns-in_ok-subtract-clause-value : goal.returns-in_ok-subtract-clause-value
returns-in_ok-subtract-clause-value c =
    let p : ℤ = c.entry-p.result in
    let q : ℤ = c.entry-q.result in
    let p_fits : InRange p = subst InRange (sym c.entry-p.ensures.value) c.entry-p.ensures.range in
    let q_fits : InRange q = subst InRange (sym c.entry-q.ensures.value) c.entry-q.ensures.range in
    let some : q ≢ pos 0 = λ e. c.if-q-ne0.true (ap (λ w. of_z w128 w) e) in
    let x : to_z w128 (of_z w128 c.factors-a.result.0) ≡ factor_of p q = back_in_range c.factors-a.result.0 c.factors-a.ensures.first_range ∙ c.factors-a.ensures.first ∙ ap₂ factor_of (back_in_range p p_fits) (back_in_range q q_fits) in
    let y : to_z w128 (of_z w128 c.factors-a.result.1) ≡ factor_of q p = back_in_range c.factors-a.result.1 c.factors-a.ensures.second_range ∙ c.factors-a.ensures.second ∙ ap₂ (λ s t. factor_of t s) (back_in_range p p_fits) (back_in_range q q_fits) in
    c.in_ok-subtract.ensures.value
    ∙ ap₂ (λ s t. lowest_line (line_less s t c.args.self.now c.args.pivot.now)) x y
    ∙ sym (cleared-some c.args.column c.args.pivot.now c.args.self.now p q c.entry-p.ensures.value c.entry-q.ensures.value some)

pub returns-in_ok-subtract-clause-fits : goal.returns-in_ok-subtract-clause-fits
returns-in_ok-subtract-clause-fits c =
    let p : ℤ = c.entry-p.result in
    let q : ℤ = c.entry-q.result in
    let p_fits : InRange p = subst InRange (sym c.entry-p.ensures.value) c.entry-p.ensures.range in
    let q_fits : InRange q = subst InRange (sym c.entry-q.ensures.value) c.entry-q.ensures.range in
    let some : q ≢ pos 0 = λ e. c.if-q-ne0.true (ap (λ w. of_z w128 w) e) in
    let x : to_z w128 (of_z w128 c.factors-a.result.0) ≡ factor_of p q = back_in_range c.factors-a.result.0 c.factors-a.ensures.first_range ∙ c.factors-a.ensures.first ∙ ap₂ factor_of (back_in_range p p_fits) (back_in_range q q_fits) in
    let y : to_z w128 (of_z w128 c.factors-a.result.1) ≡ factor_of q p = back_in_range c.factors-a.result.1 c.factors-a.ensures.second_range ∙ c.factors-a.ensures.second ∙ ap₂ (λ s t. factor_of t s) (back_in_range p p_fits) (back_in_range q q_fits) in
    let formed : all_fit (cleared_formed c.args.column c.args.pivot.now c.args.self.now) ≡ all_fit (all_less_formed (to_z w128 (of_z w128 c.factors-a.result.0)) (to_z w128 (of_z w128 c.factors-a.result.1)) (numbers_of c.args.self.now) (numbers_of c.args.pivot.now)) =
    ap all_fit (cleared_formed-some c.args.column c.args.pivot.now c.args.self.now p q c.entry-p.ensures.value c.entry-q.ensures.value some)
    ∙ ap₂ (λ s t. all_fit (all_less_formed s t (numbers_of c.args.self.now) (numbers_of c.args.pivot.now))) (sym x) (sym y) in
    formed ∙ c.in_ok-subtract.ensures.fits

pub returns-else-q-ne0-clause-fits : goal.returns-else-q-ne0-clause-fits
returns-else-q-ne0-clause-fits c =
    let q_fits : InRange c.entry-q.result = subst InRange (sym c.entry-q.ensures.value) c.entry-q.ensures.range in
    let none : c.entry-q.result ≡ pos 0 = sym (back_in_range c.entry-q.result q_fits) ∙ ap (λ n. to_z w128 n) c.if-q-ne0.false in
    ap all_fit (cleared_formed-none c.args.column c.args.pivot.now c.args.self.now (sym c.entry-q.ensures.value ∙ none)) ∙ all_fit-nil
