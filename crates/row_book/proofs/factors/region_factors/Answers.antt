use Rattle.row_book.proofs.Common.{◌≡◌, ◌∙◌, ◌+◌, List, [], ◌∷◌, ◌++◌, inl, inr, length, ap, sym, subst, arith, slice_get, Discounting, members, count_of, AreFactorsOf}
use Rattle.std.proofs.lemmas.List.{length-append}
use Rattle.model_sets.specs.Names as sets
use Rattle.row_book.proofs.Periods.{place-of_more}
use Rattle.row_book.proofs.factors.region_factors.Goals as goal

pub loop-region-preserved : goal.loop-region-preserved
loop-region-preserved c =
    let d = c.args.model.now.facts in
    let before : List Discounting = c.loop-region.factors.items in
    let this : Discounting = c.in_ok-one.one in
    let are : c.push.new.self.items ≡ before ++ this ∷ [] = c.in_ok-push.ensures.items in
    let counted : length before ≡ c.loop-region.region = c.loop-region.invariant.0 in (
      ap length are ∙ length-append before (this ∷ []) ∙ ap (λ n. n + 1) counted,
      λ r one at.
          elim (place-of_more before this one r (sym (ap (λ (factors : List Discounting). slice_get factors r) are) ∙ at)) [
            | inl so_far ↦ c.loop-region.invariant.1 r one so_far
            | inr last ↦ subst (AreFactorsOf c.args.places d r) last.1 (subst (λ n. AreFactorsOf c.args.places d n this) (sym (last.0 ∙ counted)) c.in_ok-one.ensures)
          ],
    )

pub returns-clause-factors : goal.returns-clause-factors
returns-clause-factors c =
    let counted : length c.loop-region.factors.items ≡ c.loop-region.region = c.loop-region.invariant.0 in
    let count : c.count-region-end.result ≡ count_of c.args.model.now.facts sets.region =
    c.count-region-end.ensures.count ∙ ap (λ lists. length (members lists sets.region)) c.sets.ensures.sets in
    let all : c.loop-region.region ≡ c.count-region-end.result = omega (arith, c.loop-region-test.false, c.loop-region.auto.region-end) in
    record { one_each = counted ∙ all ∙ count; each = c.loop-region.invariant.1 }
