-- What the row is of by the places of the factors, it is of by the places that are asked for.
use Rattle.row_book.proofs.Common.{◌≡◌, ℕ, List, sym, subst, Discounting, stands_at, AreRegionFactors, IsNamedRow, IsStop, Place, row_fits, terms_at}
use Rattle.std.specs.Prelude.{◌||◌, not, true, IfErr, IfOk, IfSome}
use Rattle.row_book.proofs.PlacesOfFactors.{factors-by_places, places-known}
use Rattle.row_book.proofs.single_row.row_at.Goals as goal

pub row_of-requires-clause-factors : goal.row_of-requires-clause-factors
row_of-requires-clause-factors c =
    let d = c.args.model.now.facts in
    factors-by_places c.args.places d c.deref.result.now
    (subst (λ (factors : List Discounting). AreRegionFactors c.args.places d factors) (sym c.deref.ensures.value) c.in-Ok.ensures.factors)

pub returns-clause-row : goal.returns-clause-row
returns-clause-row c =
    let d = c.args.model.now.facts in
    let factors : List Discounting = c.deref.result.now in
    let are : AreRegionFactors c.args.places d factors = subst (λ (listed : List Discounting). AreRegionFactors c.args.places d listed) (sym c.deref.ensures.value) c.in-Ok.ensures.factors in
    subst (λ (n : ℕ). IfOk c.row_of.result (λ found. IfSome found (IsNamedRow n d c.args.name (terms_at n d c.args.name))))
    (places-known c.args.places d factors c.args.name.index.region are c.requires.region) c.row_of.ensures.row

pub returns-clause-fits : goal.returns-clause-fits
returns-clause-fits c =
    let d = c.args.model.now.facts in
    let factors : List Discounting = c.deref.result.now in
    let are : AreRegionFactors c.args.places d factors = subst (λ (listed : List Discounting). AreRegionFactors c.args.places d listed) (sym c.deref.ensures.value) c.in-Ok.ensures.factors in
    subst (λ (n : ℕ). IfOk c.row_of.result (λ found. IfSome found (λ row. row_fits n d c.args.name ≡ true)))
    (places-known c.args.places d factors c.args.name.index.region are c.requires.region) c.row_of.ensures.fits

pub returns-clause-stopped : goal.returns-clause-stopped
returns-clause-stopped c =
    let d = c.args.model.now.facts in
    let factors : List Discounting = c.deref.result.now in
    let are : AreRegionFactors c.args.places d factors = subst (λ (listed : List Discounting). AreRegionFactors c.args.places d listed) (sym c.deref.ensures.value) c.in-Ok.ensures.factors in
    subst (λ (n : ℕ). IfErr c.row_of.result (IsStop (Place.Row c.args.name) (not (stands_at d c.args.name.eq c.args.name.index) || row_fits n d c.args.name)))
    (places-known c.args.places d factors c.args.name.index.region are c.requires.region) c.row_of.ensures.stopped
