use Rattle.row_book.proofs.Common.{◌≡◌, ◌∙◌, ◌<◌, List, length, sym, subst, arith, IfSome, slice_index_or, Discounting, AreRegionFactors, places_of, all_contents, equation_contents, AreTallied, HeldRows, Tally}
use Rattle.row_book.proofs.FeedLaws.{at-start, contents-within, equation-ahead, feed-contents, feed-kept, feed-made, feed-within, in-order}
use Rattle.row_book.proofs.HeldVariables.{found-sorted}
use Rattle.row_book.proofs.PlacesOfFactors.{factors-by_places, stopped-by_places}
use Rattle.row_book.proofs.Within.{stopped-within}
use Rattle.row_book.proofs.feed.RowFeed.new.Goals as goal

pub add_equations-requires-clause-factors : goal.add_equations-requires-clause-factors
add_equations-requires-clause-factors c =
    let d = c.args.model.now.facts in
    factors-by_places c.args.places d c.deref.result.now (subst (λ (fs : List Discounting). AreRegionFactors c.args.places d fs) (sym c.deref.ensures.value) c.in_ok-factors.ensures.factors)

pub returns-in-Err-clause-stopped : goal.returns-in-Err-clause-stopped
returns-in-Err-clause-stopped c =
    let d = c.args.model.now.facts in
    stopped-by_places c.args.places d c.deref.result.now 0 c.in-Err.fail (subst (λ (fs : List Discounting). AreRegionFactors c.args.places d fs) (sym c.deref.ensures.value) c.in_ok-factors.ensures.factors) c.in-Err.ensures.stopped

pub returns-in-Err-clause-place : goal.returns-in-Err-clause-place
returns-in-Err-clause-place c =
    stopped-within (places_of c.deref.result.now) c.args.model.now.facts c.in-Err.fail c.in-Err.ensures.stopped

pub invariant_of-feed : goal.invariant_of-feed
invariant_of-feed c =
    let d = c.args.model.now.facts in
    let factors : List Discounting = c.in_ok-factors.factors.items in
    let are : AreRegionFactors c.args.places d factors = c.in_ok-factors.ensures.factors in
    let tally : Tally = c.add_equations.new.self in
    let tallied : AreTallied (places_of factors) d 64 tally = subst (λ (fs : List Discounting). AreTallied (places_of fs) d 64 tally) c.deref.ensures.value c.in-Ok.ensures.tallied in
    feed-kept c.args.places d factors tally are tallied c.position_of_rows-place.result
    (subst (λ (hs : List HeldRows). IfSome c.position_of_rows-place.result (λ i. (i < length hs) × ((z : HeldRows) → (slice_index_or hs i z).eq ≡ 1))) c.deref-3.ensures.value c.position_of_rows-place.ensures)

pub returns-clause-rows : goal.returns-clause-rows
returns-clause-rows c =
    let d = c.args.model.now.facts in
    let factors : List Discounting = c.in_ok-factors.factors.items in
    let are : AreRegionFactors c.args.places d factors = c.in_ok-factors.ensures.factors in
    let tally : Tally = c.add_equations.new.self in
    let tallied : AreTallied (places_of factors) d 64 tally = subst (λ (fs : List Discounting). AreTallied (places_of fs) d 64 tally) c.deref.ensures.value c.in-Ok.ensures.tallied in
    feed-contents c.args.places d factors tally c.complete_variables.new.vars.items are tallied (found-sorted tally _ _ c.deref-2.ensures.value c.in-Ok-complete_variables.ensures)

pub returns-clause-starts : goal.returns-clause-starts
returns-clause-starts c =
    at-start c.position_of_rows-place.result 0 c.new-2.result.items (equation_contents (places_of c.in_ok-factors.factors.items) c.args.model.now.facts 1)
    ∙ sym (equation-ahead (places_of c.in_ok-factors.factors.items) c.args.model.now.facts 1 (omega arith) (omega arith))

pub returns-clause-in_order : goal.returns-clause-in_order
returns-clause-in_order c = in-order (places_of c.in_ok-factors.factors.items) c.args.model.now.facts

pub returns-clause-named : goal.returns-clause-named
returns-clause-named c = contents-within (places_of c.in_ok-factors.factors.items) c.args.model.now.facts

pub returns-clause-within : goal.returns-clause-within
returns-clause-within c =
    let d = c.args.model.now.facts in
    let factors : List Discounting = c.in_ok-factors.factors.items in
    let are : AreRegionFactors c.args.places d factors = c.in_ok-factors.ensures.factors in
    let tally : Tally = c.add_equations.new.self in
    let tallied : AreTallied (places_of factors) d 64 tally = subst (λ (fs : List Discounting). AreTallied (places_of fs) d 64 tally) c.deref.ensures.value c.in-Ok.ensures.tallied in
    feed-within c.args.places d (all_contents (places_of factors) d) c.complete_variables.new.vars.items (feed-contents c.args.places d factors tally c.complete_variables.new.vars.items are tallied (found-sorted tally _ _ c.deref-2.ensures.value c.in-Ok-complete_variables.ensures))

pub returns-clause-made : goal.returns-clause-made
returns-clause-made c =
    let d = c.args.model.now.facts in
    let factors : List Discounting = c.in_ok-factors.factors.items in
    let are : AreRegionFactors c.args.places d factors = c.in_ok-factors.ensures.factors in
    let tally : Tally = c.add_equations.new.self in
    let tallied : AreTallied (places_of factors) d 64 tally = subst (λ (fs : List Discounting). AreTallied (places_of fs) d 64 tally) c.deref.ensures.value c.in-Ok.ensures.tallied in
    feed-made c.args.places d factors tally are tallied
