use Rattle.param_tables.proofs.Common.{◌≡◌, ◌<◌, pos, Some, Ok, Err, slice_get-get_or, length, nat_eq, set, sym, ap, ◌∙◌, arith, rules, to_z, of_z, w128, if◌then◌else◌, is_some, zip, given_in}
use Rattle.param_tables.proofs.EntryLaws.{given_in-searched}
use Rattle.param_tables.proofs.ReplacedLaws.{found_at, found_inside, given_replaced}
use Rattle.param_tables.proofs.param_table.ParamTable.replace.Goals as goal

pub index_mut-requires : goal.index_mut-requires
index_mut-requires c =
    let below : c.in-Ok.i < length c.args.self.now.places.items = found_inside c.args.self.now.places.items c.args.place c.in-Ok.i c.requires.ascending c.in-Ok.ensures in
    omega (arith, c.requires.long, c.args.self.now.values.ok.0)

pub returns-in-Ok-clause-given : goal.returns-in-Ok-clause-given
returns-in-Ok-clause-given c =
    let places = c.args.self.now.places.items in
    let values = c.args.self.now.values.items in
    let i = c.in-Ok.i in
    let below : i < length places = found_inside places c.args.place i c.requires.ascending c.in-Ok.ensures in
    sym (ap is_some (given_in-searched places values c.args.place (Ok i) c.requires.ascending c.requires.long c.in-Ok.ensures ∙ slice_get-get_or values i (pos 0) (omega (arith, c.requires.long))))

pub returns-in-Ok-clause-here : goal.returns-in-Ok-clause-here
returns-in-Ok-clause-here c q =
    let places = c.args.self.now.places.items in
    let values = c.args.self.now.values.items in
    let i = c.in-Ok.i in
    let back : to_z w128 (of_z w128 c.args.value) ≡ c.args.value = search rules in
    let below : i < length places = found_inside places c.args.place i c.requires.ascending c.in-Ok.ensures in
    ap (λ v. given_in (zip places (set values i v)) q) back
    ∙ given_replaced places values i c.args.value q c.requires.ascending c.requires.long below
    ∙ ap (λ p. if nat_eq q p then Some c.args.value else given_in (zip places values) q) (found_at places c.args.place i c.requires.ascending c.in-Ok.ensures)

pub returns-in-Err-clause-given : goal.returns-in-Err-clause-given
returns-in-Err-clause-given c =
    let table = c.args.self.now in
    sym (ap is_some (given_in-searched table.places.items table.values.items c.args.place (Err c.in-Err.field-0) c.requires.ascending c.requires.long c.in-Err.ensures))
