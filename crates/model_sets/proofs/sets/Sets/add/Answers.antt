use Rattle.model_sets.proofs.Common.{◌≡◌, ◌-◌, ◌<◌, ◌++◌, [], ◌∷◌, None, set, length, get_or, sym, ap, subst, ◌∙◌, arith, IsDistinct, bytes_eq, get_or_default, AreSets, members, first_refusal, with_member}
use Rattle.model_sets.proofs.SetLaws.{with_member_are, none_found}
use Rattle.model_sets.proofs.sets.Sets.add.Goals as goal

pub invariant_of-self-2 : goal.invariant_of-self-2
invariant_of-self-2 c =
    let sets = c.self.inside.lists.items in
    let k = c.args.set in
    let name = c.args.name.now in
    let free : first_refusal sets k name ≡ None = ap (λ all. first_refusal all k name) c.self.view_is ∙ sym c.refusal.ensures ∙ none_found c.refusal.result c.in_default.not-Some in
    let below : k - 1 < length sets = omega (arith, c.self.invariant.eleven, c.requires.0, c.requires.1) in
    let list : c.index_mut-list.result.now ≡ members sets k =
    c.index_mut-list.ensures.value ∙ ap (λ i. get_or sets i c.index_mut-list.result.now) c.from.ensures ∙ get_or_default sets (k - 1) c.index_mut-list.result.now [] below in
    let new : c.append.new.self ≡ members sets k ++ name ∷ [] = c.in_ok-append.ensures.appended ∙ ap (λ names. names ++ name ∷ []) list in
    let kept : AreSets (with_member sets k name) =
    with_member_are sets k name c.self.invariant c.requires free (subst (IsDistinct bytes_eq) new c.in_ok-append.ensures.distinct) in
    subst AreSets (sym (ap (λ i. set sets i c.append.new.self) c.from.ensures ∙ ap (set sets (k - 1)) new)) kept
