use Rattle.mathprog_data.proofs.Common.{rules, ◌≡◌, ◌++◌, ◌∷◌, [], ap, sym, subst, ◌∙◌, length, to_z, of_z, w128, AreKept, all_told, kept_told, names_at, places_in, KeptValue}
use Rattle.mathprog_data.proofs.ValueLemmas.{kept-grown, kept-pushed, told-more}
use Rattle.mathprog_data.proofs.values.Values.push_plain.Goals as goal

pub invariant_of-self : goal.invariant_of-self
invariant_of-self c = kept-grown c.self.inside.names.items c.places_between.new.names.items c.self.inside.kept.items c.places_between.ensures.grown c.self.invariant

pub invariant_of-self-in_err-push : goal.invariant_of-self-in_err-push
invariant_of-self-in_err-push c =
    subst (AreKept (length c.places_between.new.names.items)) (sym c.in_err-push.ensures.items) (kept-grown c.self.inside.names.items c.places_between.new.names.items c.self.inside.kept.items c.places_between.ensures.grown c.self.invariant)

pub invariant_of-self-2 : goal.invariant_of-self-2
invariant_of-self-2 c =
    let value : KeptValue = record { index = c.in_ok-index.index; at = c.args.at; value = to_z w128 (of_z w128 c.args.number.0) } in
    subst (AreKept (length c.places_between.new.names.items)) (sym c.in_ok-push.ensures.items)
    (kept-pushed (length c.places_between.new.names.items) c.self.inside.kept.items value
    (kept-grown c.self.inside.names.items c.places_between.new.names.items c.self.inside.kept.items c.places_between.ensures.grown c.self.invariant)
    c.in_ok-index.ensures.index.within)

pub returns : goal.returns
returns c =
    let value : KeptValue = record { index = c.in_ok-index.index; at = c.args.at; value = to_z w128 (of_z w128 c.args.number.0) } in
    let kept_index = names_at c.places_between.new.names.items (places_in c.in_ok-index.index) in
    let back : to_z w128 (of_z w128 c.args.number.0) ≡ c.args.number.0 = search rules in
    ap (λ kept. all_told c.places_between.new.names.items kept) c.in_ok-push.ensures.items
    ∙ told-more c.self.inside.names.items c.places_between.new.names.items c.self.inside.kept.items value c.places_between.ensures.grown c.self.invariant
    ∙ ap (λ told. told ++ kept_told c.places_between.new.names.items value ∷ []) c.self.view_is
    ∙ ap (λ n. c.args.self.now ++ record { index = kept_index; value = n; at = c.args.at } ∷ []) back
    ∙ ap (λ index. c.args.self.now ++ record { index = index; value = c.args.number.0; at = c.args.at } ∷ []) c.in_ok-index.ensures.index.named
