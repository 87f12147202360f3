use Rattle.mathprog_data.proofs.Common.{rules, ◌≡◌, ◌+◌, ◌++◌, ◌∷◌, [], ap, sym, subst, ◌∙◌, drop, get_or, length, ◌<◌, append_assoc, index_at, AreWithin, names_at, places_in, none}
use Rattle.mathprog_data.proofs.ValueLemmas.{fixed_next, free_next, grown-refl, grown-trans}
use Rattle.mathprog_data.proofs.values.places_between.Goals as goal
use Rattle.mathprog_data.proofs.values.places_between.Goals.{in-Some, in-None+else-taken-others}

pub loop-place-init : goal.loop-place-init
loop-place-init c =
    let names = c.args.names.now.items in (
      grown-refl names,
      subst (AreWithin (length names)) (sym c.new-index.ensures) none,
      ap (λ ps. names_at names ps ++ index_at c.args.slice.now c.args.others.now) c.new-index.ensures,
    )

pub loop-place-preserved : goal.loop-place-preserved
loop-place-preserved c =
    let old = c.loop-place.names.items in
    let new = c.point_to.new.names.items in
    let rest = index_at (drop (c.loop-place.place-index + 1) c.args.slice.now) (drop c.match-place.taken c.args.others.now) in
    let so_far = names_at old (places_in c.loop-place.index) in
    let i = c.loop-place.place-index in
    let slice = c.args.slice.now in
    let below : i < length slice = search rules in
    let stepped : index_at (drop i slice) (drop c.loop-place.taken c.args.others.now) ≡ c.match-place.name.now ∷ rest =
    elim c.match-place.branch [
      | in-Some w ↦
          let k : c.match-place.taken ≡ c.loop-place.taken = search rules in
          let name : w.in-Some.fixed ≡ c.match-place.name.now = search rules in
          subst (λ n. index_at (drop i slice) (drop c.loop-place.taken c.args.others.now) ≡ n ∷ rest) name
          (subst (λ k. index_at (drop i slice) (drop c.loop-place.taken c.args.others.now) ≡ w.in-Some.fixed ∷ index_at (drop (i + 1) slice) (drop k c.args.others.now)) (sym k)
          (fixed_next slice i c.place-item.result w.in-Some.fixed (drop c.loop-place.taken c.args.others.now) below c.place-item.is w.in-Some.is))
      | in-None+else-taken-others w ↦
          let k : c.match-place.taken ≡ c.loop-place.taken + 1 = search rules in
          let inside : c.loop-place.taken < length c.args.others.now = search rules in
          let name : c.match-place.name.now ≡ get_or c.args.others.now c.loop-place.taken c.match-place.name.now = search rules in
          subst (λ k. index_at (drop i slice) (drop c.loop-place.taken c.args.others.now) ≡ c.match-place.name.now ∷ index_at (drop (i + 1) slice) (drop k c.args.others.now)) (sym k)
          (free_next slice i c.place-item.result c.loop-place.taken c.match-place.name.now c.args.others.now below c.place-item.is w.in-None.is inside name)
    ] in (
      grown-trans c.args.names.now.items old new c.loop-place.invariant.0 c.point_to.ensures.grown,
      c.in_ok-point_to.ensures.within,
      ap (λ ns. ns ++ rest) c.in_ok-point_to.ensures.named
          ∙ append_assoc so_far (c.match-place.name.now ∷ []) rest
          ∙ ap (λ r. so_far ++ r) (sym stepped)
          ∙ c.loop-place.invariant.2,
    )
