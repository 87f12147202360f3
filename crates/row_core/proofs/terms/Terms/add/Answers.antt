use Rattle.row_core.proofs.Common.{◌≡◌, ℕ, true, List, map, get_or, set, sym, ap, ◌∙◌, subst, Result, Ok, Err, OnOk, OnErr, insert, on_ok_weaker, MatchResult-weaker, sum_formed, all_fit, plus, value_of, all_fit-nil, Stopped, Term, ascends, variables_of, var_cmp, IsStop, IsThere, BelongsAt, seen}
use Rattle.row_core.specs.Terms.{with_term, term_formed}
use Rattle.row_core.proofs.TermLaws.{with_term-there, term_formed-there, with_term-belongs, term_formed-belongs, ascends-with_term}
use Rattle.row_core.proofs.terms.Terms.add.Goals as goal

-- what was done to the term that is there is what one more term does
added_there : (items items' : List Term) (term : Term) (at : ℕ) (r : Result Unit Stopped) → IsThere items term.variable at
    → OnOk r ((d : Term) → map seen items' ≡ set (map seen items) at ((get_or items at d).variable, plus (value_of (get_or items at d).coefficient) (value_of term.coefficient)))
    → OnOk r (map seen items' ≡ with_term (seen term) (map seen items))
added_there items items' term at r there h = on_ok_weaker r (λ e. e term ∙ sym (with_term-there (seen term) items at term there)) h

-- a term that is put in at its place is one more term
put_there : (items items' : List Term) (term : Term) (at : ℕ) (r : Result Unit Stopped) → BelongsAt items term.variable at
    → OnOk r (items' ≡ insert items at term) → OnOk r (map seen items' ≡ with_term (seen term) (map seen items))
put_there items items' term at r belongs h = on_ok_weaker r (λ e. ap (map seen) e ∙ with_term-belongs term items at belongs) h

-- the terms ascend whether one was added or none
ascend_after : (items items' : List Term) (term : Term) (r : Result Unit Stopped) → ascends var_cmp (variables_of (map seen items)) ≡ true
    → OnOk r (map seen items' ≡ with_term (seen term) (map seen items)) → OnErr r (items' ≡ items) → ascends var_cmp (variables_of (map seen items')) ≡ true
ascend_after items items' term (Ok x) up added kept = ap (λ ts. ascends var_cmp (variables_of ts)) added ∙ ascends-with_term (seen term) (map seen items) up
ascend_after items items' term (Err e) up added kept = ap (λ ts. ascends var_cmp (variables_of (map seen ts))) kept ∙ up

pub returns-in-Ok-clause-added : goal.returns-in-Ok-clause-added
returns-in-Ok-clause-added c =
    let items = c.self.inside.list.items in
    let r : Result Unit Stopped = c.increase.result in
    let there : IsThere items c.args.term.variable c.in-Ok.at = subst (λ ts. IsThere ts c.args.term.variable c.in-Ok.at) c.deref.ensures.value c.in-Ok.ensures in
    let done = added_there items c.increase.new.list.items c.args.term c.in-Ok.at r there c.increase.ensures.added in
    subst (λ ts. OnOk r (map seen c.increase.new.list.items ≡ with_term (seen c.args.term) ts)) c.self.view_is done

pub invariant_of-self : goal.invariant_of-self
invariant_of-self c =
    let items = c.self.inside.list.items in
    let r : Result Unit Stopped = c.increase.result in
    let there : IsThere items c.args.term.variable c.in-Ok.at = subst (λ ts. IsThere ts c.args.term.variable c.in-Ok.at) c.deref.ensures.value c.in-Ok.ensures in
    let done = added_there items c.increase.new.list.items c.args.term c.in-Ok.at r there c.increase.ensures.added in
    ascend_after items c.increase.new.list.items c.args.term r c.self.invariant done c.increase.ensures.unchanged

pub returns-in-Ok-clause-fits : goal.returns-in-Ok-clause-fits
returns-in-Ok-clause-fits c =
    let items = c.self.inside.list.items in
    let r : Result Unit Stopped = c.increase.result in
    let there : IsThere items c.args.term.variable c.in-Ok.at = subst (λ ts. IsThere ts c.args.term.variable c.in-Ok.at) c.deref.ensures.value c.in-Ok.ensures in
    let formed = ap all_fit (sym (term_formed-there (seen c.args.term) items c.in-Ok.at c.args.term there) ∙ ap (term_formed (seen c.args.term)) c.self.view_is) in
    on_ok_weaker r (λ (h : (d : Term) → all_fit (sum_formed (value_of (get_or items c.in-Ok.at d).coefficient) (value_of c.args.term.coefficient)) ≡ true). sym formed ∙ h c.args.term) c.increase.ensures.fits

pub returns-in-Ok-clause-stopped : goal.returns-in-Ok-clause-stopped
returns-in-Ok-clause-stopped c =
    let items = c.self.inside.list.items in
    let r : Result Unit Stopped = c.increase.result in
    let there : IsThere items c.args.term.variable c.in-Ok.at = subst (λ ts. IsThere ts c.args.term.variable c.in-Ok.at) c.deref.ensures.value c.in-Ok.ensures in
    let formed = ap all_fit (sym (term_formed-there (seen c.args.term) items c.in-Ok.at c.args.term there) ∙ ap (term_formed (seen c.args.term)) c.self.view_is) in
    MatchResult-weaker r c.increase.ensures.stopped (λ x h. h)
    (λ e (h : (d : Term) → IsStop c.args.place (all_fit (sum_formed (value_of (get_or items c.in-Ok.at d).coefficient) (value_of c.args.term.coefficient))) e). subst (λ b. IsStop c.args.place b e) formed (h c.args.term))

pub invariant_of-self-in-Err : goal.invariant_of-self-in-Err
invariant_of-self-in-Err c =
    let items = c.self.inside.list.items in
    let r : Result Unit Stopped = c.put_in.result in
    let belongs : BelongsAt items c.args.term.variable c.in-Err.at = subst (λ ts. BelongsAt ts c.args.term.variable c.in-Err.at) c.deref.ensures.value c.in-Err.ensures in
    let done = put_there items c.put_in.new.list.items c.args.term c.in-Err.at r belongs c.put_in.ensures.put in
    ascend_after items c.put_in.new.list.items c.args.term r c.self.invariant done c.put_in.ensures.unchanged

pub returns-in-Err-clause-added : goal.returns-in-Err-clause-added
returns-in-Err-clause-added c =
    let items = c.self.inside.list.items in
    let r : Result Unit Stopped = c.put_in.result in
    let belongs : BelongsAt items c.args.term.variable c.in-Err.at = subst (λ ts. BelongsAt ts c.args.term.variable c.in-Err.at) c.deref.ensures.value c.in-Err.ensures in
    let done = put_there items c.put_in.new.list.items c.args.term c.in-Err.at r belongs c.put_in.ensures.put in
    subst (λ ts. OnOk r (map seen c.put_in.new.list.items ≡ with_term (seen c.args.term) ts)) c.self.view_is done

pub returns-in-Err-clause-fits : goal.returns-in-Err-clause-fits
returns-in-Err-clause-fits c =
    let items = c.self.inside.list.items in
    let r : Result Unit Stopped = c.put_in.result in
    let belongs : BelongsAt items c.args.term.variable c.in-Err.at = subst (λ ts. BelongsAt ts c.args.term.variable c.in-Err.at) c.deref.ensures.value c.in-Err.ensures in
    let formed = ap all_fit (ap (term_formed (seen c.args.term)) (sym c.self.view_is) ∙ term_formed-belongs (seen c.args.term) items c.in-Err.at c.args.term belongs) ∙ all_fit-nil in
    on_ok_weaker r (λ (h : c.put_in.new.list.items ≡ insert items c.in-Err.at c.args.term). formed) c.put_in.ensures.put
