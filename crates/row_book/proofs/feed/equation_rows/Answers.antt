use Rattle.row_book.proofs.Common.{◌≡◌, ◌<◌, ◌≤◌, ◌∙◌, sym, arith, Width, TooManyEntries, Memory, instances_of, places_of}
use Rattle.row_book.proofs.FeedLaws.{reversed-says}
use Rattle.row_book.proofs.MadeAgain.{equation-stops}
use Rattle.row_book.proofs.RowsAddedLaws.{alone}
use Rattle.row_book.proofs.feed.equation_rows.Goals as goal

pub returns : goal.returns
returns c =
    let d = c.args.model.now.facts in
    let places = places_of c.args.factors.now in
    reversed-says places d c.args.eq c.add_equation.new.self.rows.items c.reverse.new.self.items
    (alone places d (instances_of d c.args.eq) _ c.add_equation.new.self c.new.ensures.items c.in-Ok.ensures.added) c.reverse.ensures.items

pub unreachable-requires : goal.unreachable-requires
unreachable-requires c =
    let low : 1 ≤ c.args.eq = omega (arith, c.requires.equation.0) in
    let high : c.args.eq < 65 = omega (arith, c.requires.equation.1) in
    let stops = equation-stops (places_of c.args.factors.now) c.args.model.now.facts c.args.eq c.in-Err-Width.field-0 low high c.requires.made c.in-Err-Width.ensures.stopped in
    let differ : Width c.in-Err-Width.field-0-0 ≡ Memory = sym c.in-Err-Width.field-0-is ∙ stops in cc

pub unreachable-requires-in-Err-TooManyEntries : goal.unreachable-requires-in-Err-TooManyEntries
unreachable-requires-in-Err-TooManyEntries c =
    let low : 1 ≤ c.args.eq = omega (arith, c.requires.equation.0) in
    let high : c.args.eq < 65 = omega (arith, c.requires.equation.1) in
    let stops = equation-stops (places_of c.args.factors.now) c.args.model.now.facts c.args.eq c.in-Err-TooManyEntries.field-0 low high c.requires.made c.in-Err-TooManyEntries.ensures.stopped in
    let differ : TooManyEntries ≡ Memory = sym c.in-Err-TooManyEntries.field-0-is ∙ stops in cc
