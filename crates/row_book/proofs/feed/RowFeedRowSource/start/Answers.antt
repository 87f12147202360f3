use Rattle.row_book.proofs.Common.{◌≡◌, ◌<◌, ◌∙◌, ℕ, List, false, ap, length, subst, arith, IfSome, slice_index_or, places_of, rows_of_equation, ahead_after, equation_contents, HeldRows}
use Rattle.row_book.proofs.FeedLaws.{ahead-starts, at-start}
use Rattle.row_book.proofs.feed.RowFeedRowSource.start.Goals as goal

pub returns-clause-ahead : goal.returns-clause-ahead
returns-clause-ahead c =
    let feed = c.self.inside in
    let high : c.args.eq < 65 = omega (arith, c.requires.1) in
    at-start c.position_of_rows-place.result c.index.result.now feed.rows.items (equation_contents (places_of feed.factors.items) feed.model.now.facts c.args.eq)
    ∙ ap (λ (n : ℕ). ahead_after n false feed.rows.items (equation_contents (places_of feed.factors.items) feed.model.now.facts c.args.eq)) c.index.ensures
    ∙ ahead-starts (places_of feed.factors.items) feed.model.now.facts feed.before.items feed.rows.items c.args.eq _ c.self.invariant.counts c.requires.0 high
    ∙ ap (λ v. rows_of_equation c.args.eq v.rows) c.self.view_is

pub invariant_of-self : goal.invariant_of-self
invariant_of-self c =
    let feed = c.self.inside in record {
      equation = c.requires;
      factors_are = c.self.invariant.factors_are;
      made = c.self.invariant.made;
      counts = c.self.invariant.counts;
      held_are = c.self.invariant.held_are;
      place_is = subst (λ (hs : List HeldRows). IfSome c.position_of_rows-place.result (λ i. (i < length hs) × ((z : HeldRows) → (slice_index_or hs i z).eq ≡ c.args.eq)))
          c.deref.ensures.value c.position_of_rows-place.ensures;
      marks = c.self.invariant.marks;
    }
