use Rattle.param_tables.proofs.Common.{◌≡◌, ℕ, ◌<◌, List, length, get_or, get_or_default, Some, ◌∙◌, subst, Contains, SetLists, indices_over, first_of, filter_map}
use Rattle.param_tables.specs.Changes.{Named}
use Rattle.param_tables.specs.ChangeTold.{named_over}
use Rattle.param_tables.specs.OpenTables.{IsPlaceStopDue, fault_by, places_named, rule_of}
use Rattle.param_tables.proofs.NamedLaws.{places_below}
use Rattle.param_tables.proofs.PutLaws.{first_fault_among}
use Rattle.param_tables.proofs.changed_table.puts_for.Goals as goal

-- one of the named places is that of an index
below_of : (sets : SetLists) (ks : List ℕ) (named : List Named) (places : List ℕ) (place : ℕ) → places ≡ places_named sets ks named → Contains places place → place < length (indices_over sets ks)
below_of sets ks named places place same has = places_below sets ks named place (subst (λ ps. Contains ps place) same has)

pub puts_of-requires-clause-values : goal.puts_of-requires-clause-values
puts_of-requires-clause-values c k d below =
    let places = c.as_slice-2.result.now in
    let place = get_or places k d in
    let ks = c.subscript_sets-subscripts.result.now in
    let sets = c.args.sets.now in
    let inside : place < length (indices_over sets ks) = below_of sets ks (named_over sets ks c.as_slice.result.now) places place (c.as_slice-2.ensures.value ∙ c.in_ok-places.ensures) (k, below, get_or_default places k place d below) in
    let P : List ℕ → Type 0 = λ js. place < length (indices_over sets js) in
    c.requires.values.each place (subst P c.subscript_sets-subscripts.ensures.sets inside)

pub index_at-requires-clause-below : goal.index_at-requires-clause-below
index_at-requires-clause-below c =
    let places = c.as_slice-2.result.now in
    let ks = c.subscript_sets-subscripts.result.now in
    let sets = c.args.sets.now in
    let faults = filter_map (fault_by (rule_of c.args.change.now) c.args.table.now) places in
    let first : first_of faults ≡ Some c.in-Err-Fault.found = subst (IsPlaceStopDue (first_of faults)) c.in-Err-Fault.field-0-is c.in-Err-Fault.ensures.refused in
    below_of sets ks (named_over sets ks c.as_slice.result.now) places c.in-Err-Fault.found.place (c.as_slice-2.ensures.value ∙ c.in_ok-places.ensures)
    (first_fault_among (rule_of c.args.change.now) c.args.table.now places c.in-Err-Fault.found first)
