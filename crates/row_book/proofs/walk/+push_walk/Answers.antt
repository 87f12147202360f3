-- Value by value.
use Rattle.row_book.proofs.Common.{◌≡◌, ℕ, ◌+◌, ◌-◌, ◌++◌, List, ap, sym, ◌∙◌, flat_map, range_with_len, Index, subscripts_of, moved, walk}
use Rattle.row_book.proofs.Ranges.{parts-more}
use Rattle.row_book.proofs.walk.+push_walk.Goals as goal

pub loop-position-preserved : goal.loop-position-preserved
loop-position-preserved t c =
    let walked : Index → List Index = walk c.args.model.now.facts (subscripts_of c.args.eq) c.in-Some.more.now in
    let f : ℕ → List Index = λ v. walked (moved c.args.start c.in-Some.subscript.now v) in
    let i = c.loop-position.position in
    let end = c.number_of_values-position-end.result in
    let rest : List Index = flat_map f (range_with_len (i + 1) (end - (i + 1))) in
    let more : c.loop-position.out.items ++ f i ≡ c.push_walk.new.out.items =
    ap (λ p. c.loop-position.out.items ++ walked p) (sym c.moved.ensures) ∙ sym c.in_ok-push_walk-in-Some.ensures in
    c.loop-position.invariant ∙ parts-more f i end c.loop-position.out.items c.loop-position-test.true ∙ ap (λ out. out ++ rest) more
