use Rattle.mathprog_data.proofs.Common.{rules, ◌≡◌, ◌+◌, ◌++◌, ◌∷◌, [], ap, sym, subst, ◌∙◌, drop, length, refl, List, ◌<◌, ◌≤◌, arith, append_assoc, index_at, Name, AreWithin, names_at, places_in, none}
use Rattle.mathprog_data.proofs.ValueLemmas.{fixed_next, free_next, grown-refl, grown-trans}
use Rattle.mathprog_data.proofs.values.places_of_two.Goals as goal
use Rattle.mathprog_data.proofs.values.places_of_two.Goals.{in-Some, in-None+in-1, in-None+in-2}

pub loop-place-init : goal.loop-place-init
loop-place-init c =
    let names = c.args.names.now.items in (
      grown-refl names,
      subst (AreWithin (length names)) (sym c.new-index.ensures) none,
      ap (λ ps. names_at names ps ++ index_at c.args.slice.now (c.args.first.now ∷ c.args.second.now ∷ [])) c.new-index.ensures,
      omega arith,
    )

pub loop-place-preserved : goal.loop-place-preserved
loop-place-preserved c =
    let old = c.loop-place.names.items in
    let new = c.point_to.new.names.items in
    let rest = index_at (drop (c.loop-place.place-index + 1) c.args.slice.now) (drop c.match-place.taken (c.args.first.now ∷ c.args.second.now ∷ [])) in
    let so_far = names_at old (places_in c.loop-place.index) in
    let bound : c.match-place.taken ≤ 2 = elim c.match-place.branch [ in-Some w ↦ search rules | in-None+in-1 w ↦ search rules | in-None+in-2 w ↦ search rules ] in
    let i = c.loop-place.place-index in
    let slice = c.args.slice.now in
    let below : i < length slice = search rules in
    let both : List Name = (c.args.first.now ∷ c.args.second.now ∷ []) in
    let stepped : index_at (drop i slice) (drop c.loop-place.taken both) ≡ c.match-place.name.now ∷ rest =
    elim c.match-place.branch [
      | in-Some w ↦
          let k : c.match-place.taken ≡ c.loop-place.taken = search rules in
          let name : w.in-Some.fixed ≡ c.match-place.name.now = search rules in
          subst (λ n. index_at (drop i slice) (drop c.loop-place.taken both) ≡ n ∷ rest) name
          (subst (λ k. index_at (drop i slice) (drop c.loop-place.taken both) ≡ w.in-Some.fixed ∷ index_at (drop (i + 1) slice) (drop k both)) (sym k)
          (fixed_next slice i c.place-item.result w.in-Some.fixed (drop c.loop-place.taken both) below c.place-item.is w.in-Some.is))
      | in-None+in-1 w ↦
          let k : c.match-place.taken ≡ 1 = search rules in
          let before : c.loop-place.taken ≡ 0 = search rules in
          let name : c.match-place.name.now ≡ c.args.first.now = search rules in
          subst (λ n. index_at (drop i slice) (drop c.loop-place.taken both) ≡ n ∷ rest) (sym name)
          (subst (λ k. index_at (drop i slice) (drop c.loop-place.taken both) ≡ c.args.first.now ∷ index_at (drop (i + 1) slice) (drop k both)) (sym k)
          (subst (λ k. index_at (drop i slice) (drop k both) ≡ c.args.first.now ∷ index_at (drop (i + 1) slice) (drop 1 both)) (sym before)
          (free_next slice i c.place-item.result 0 c.args.first.now both below c.place-item.is w.in-None.is (omega arith) refl)))
      | in-None+in-2 w ↦
          let k : c.match-place.taken ≡ 2 = search rules in
          let before : c.loop-place.taken ≡ 1 = search rules in
          let name : c.match-place.name.now ≡ c.args.second.now = search rules in
          subst (λ n. index_at (drop i slice) (drop c.loop-place.taken both) ≡ n ∷ rest) (sym name)
          (subst (λ k. index_at (drop i slice) (drop c.loop-place.taken both) ≡ c.args.second.now ∷ index_at (drop (i + 1) slice) (drop k both)) (sym k)
          (subst (λ k. index_at (drop i slice) (drop k both) ≡ c.args.second.now ∷ index_at (drop (i + 1) slice) (drop 2 both)) (sym before)
          (free_next slice i c.place-item.result 1 c.args.second.now both below c.place-item.is w.in-None.is (omega arith) refl)))
    ] in (
      grown-trans c.args.names.now.items old new c.loop-place.invariant.0 c.point_to.ensures.grown,
      c.in_ok-point_to.ensures.within,
      ap (λ ns. ns ++ rest) c.in_ok-point_to.ensures.named
          ∙ append_assoc so_far (c.match-place.name.now ∷ []) rest
          ∙ ap (λ r. so_far ++ r) (sym stepped)
          ∙ c.loop-place.invariant.2,
      bound,
    )
