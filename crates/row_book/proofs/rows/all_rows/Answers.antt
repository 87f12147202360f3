-- What the rows are of by the places of the factors, they are of by the places that are asked for.
use Rattle.row_book.proofs.Common.{List, sym, subst, Discounting, instances, AreRegionFactors, places_of}
use Rattle.row_book.proofs.PlacesOfFactors.{factors-by_places, made-by_places, rows-by_places, stopped-by_places}
use Rattle.row_book.proofs.RowsAddedLaws.{adds-made, alone}
use Rattle.row_book.proofs.rows.all_rows.Goals as goal

pub add_equations-requires : goal.add_equations-requires
add_equations-requires c =
    let d = c.args.model.now.facts in
    factors-by_places c.args.places d c.deref.result.now
    (subst (λ (factors : List Discounting). AreRegionFactors c.args.places d factors) (sym c.deref.ensures.value) c.in_ok-factors.ensures.factors)

pub returns-in-Ok-clause-rows : goal.returns-in-Ok-clause-rows
returns-in-Ok-clause-rows c =
    let d = c.args.model.now.facts in
    let factors : List Discounting = c.deref.result.now in
    let are : AreRegionFactors c.args.places d factors = subst (λ (listed : List Discounting). AreRegionFactors c.args.places d listed) (sym c.deref.ensures.value) c.in_ok-factors.ensures.factors in
    rows-by_places c.args.places d factors c.add_equations.new.self.rows.items are (alone (places_of factors) d (instances d) _ c.add_equations.new.self c.new.ensures.items c.in-Ok.ensures.added)

pub returns-in-Ok-clause-made : goal.returns-in-Ok-clause-made
returns-in-Ok-clause-made c =
    let d = c.args.model.now.facts in
    let factors : List Discounting = c.deref.result.now in
    let are : AreRegionFactors c.args.places d factors = subst (λ (listed : List Discounting). AreRegionFactors c.args.places d listed) (sym c.deref.ensures.value) c.in_ok-factors.ensures.factors in
    made-by_places c.args.places d factors 0 are (adds-made (places_of factors) d (instances d) _ c.add_equations.new.self c.in-Ok.ensures.added)

pub returns-clause-stopped : goal.returns-clause-stopped
returns-clause-stopped c =
    let d = c.args.model.now.facts in
    let factors : List Discounting = c.deref.result.now in
    let are : AreRegionFactors c.args.places d factors = subst (λ (listed : List Discounting). AreRegionFactors c.args.places d listed) (sym c.deref.ensures.value) c.in_ok-factors.ensures.factors in
    stopped-by_places c.args.places d factors 0 c.in-Err.fail are c.in-Err.ensures.stopped
