use Rattle.std.proofs.Common.{◌<◌, sym, subst}
use Rattle.mathprog_data.proofs.ValueLemmas.{name_said, place_inside, subscript_inside}
use Rattle.mathprog_data.proofs.values.Values.name.Goals as goal

pub get-place-requires : goal.get-place-requires
get-place-requires c =
    subscript_inside c.self.inside.names.items c.self.inside.kept.items c.args.self.now c.args.number c.index.result.now c.args.subscript c.self.view_is c.requires.number c.index.ensures c.requires.subscript

pub index-requires-2 : goal.index-requires-2
index-requires-2 c =
    let subscript = subscript_inside c.self.inside.names.items c.self.inside.kept.items c.args.self.now c.args.number c.index.result.now c.args.subscript c.self.view_is c.requires.number c.index.ensures c.requires.subscript in
    subst (λ n. c.get-place.result < n) (sym c.self.inside.names.ok.0)
    (place_inside c.self.inside.names.items c.self.inside.kept.items c.args.self.now c.args.number c.index.result.now c.args.subscript c.get-place.result c.self.view_is c.self.invariant c.requires.number c.index.ensures subscript c.get-place.ensures)

pub returns : goal.returns
returns c v value =
    let names = c.self.inside.names.items in
    let subscript = subscript_inside names c.self.inside.kept.items c.args.self.now c.args.number c.index.result.now c.args.subscript c.self.view_is c.requires.number c.index.ensures c.requires.subscript in
    let inside = place_inside names c.self.inside.kept.items c.args.self.now c.args.number c.index.result.now c.args.subscript c.get-place.result c.self.view_is c.self.invariant c.requires.number c.index.ensures subscript c.get-place.ensures in
    name_said names c.self.inside.kept.items c.args.self.now c.args.number c.index.result.now v c.args.subscript c.get-place.result c.index-2.result.now c.self.view_is c.requires.number c.index.ensures value subscript c.get-place.ensures inside c.index-2.ensures
