use Rattle.mathprog_data.proofs.Common.{ap, sym, subst, ◌∙◌, length, AreKept, all_told}
use Rattle.mathprog_data.proofs.ValueLemmas.{grown-trans, kept-grown, told-grown}
use Rattle.mathprog_data.proofs.values.Values.keep_names.Goals as goal

pub invariant_of-self : goal.invariant_of-self
invariant_of-self c =
    let old = c.self.inside in
    let new = c.loop-i.self-inside in
    subst (λ k. AreKept (length new.names.items) k.items) (sym c.loop-i.invariant.1) (kept-grown old.names.items new.names.items old.kept.items c.loop-i.invariant.0 c.self.invariant)

pub invariant_of-self-in_err-place : goal.invariant_of-self-in_err-place
invariant_of-self-in_err-place c =
    let old = c.self.inside in
    let mid = c.loop-i.self-inside in
    let new = c.keep.new.names in
    subst (λ k. AreKept (length new.items) k.items) (sym c.loop-i.invariant.1) (kept-grown old.names.items new.items old.kept.items (grown-trans old.names.items mid.names.items new.items c.loop-i.invariant.0 c.keep.ensures.grown) c.self.invariant)

pub returns-in_err-place : goal.returns-in_err-place
returns-in_err-place c =
    let old = c.self.inside in
    let mid = c.loop-i.self-inside in
    let new = c.keep.new.names in
    ap (λ k. all_told new.items k.items) c.loop-i.invariant.1
    ∙ told-grown old.names.items new.items old.kept.items (grown-trans old.names.items mid.names.items new.items c.loop-i.invariant.0 c.keep.ensures.grown) c.self.invariant
    ∙ c.self.view_is

pub returns : goal.returns
returns c =
    let old = c.self.inside in
    let new = c.loop-i.self-inside in
    ap (λ k. all_told new.names.items k.items) c.loop-i.invariant.1
    ∙ told-grown old.names.items new.names.items old.kept.items c.loop-i.invariant.0 c.self.invariant
    ∙ c.self.view_is
