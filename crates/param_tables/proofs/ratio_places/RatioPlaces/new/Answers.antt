use Rattle.param_tables.proofs.Common.{◌*◌, ◌<◌, ◌∙◌, subst, AreGrouped, is_given_nonzero, region_size, entries_of}
use Rattle.param_tables.proofs.NonzeroLaws.{below_kept, grouped_of}
use Rattle.param_tables.proofs.ratio_places.RatioPlaces.new.Goals as goal

pub grouped_places-requires-clause-below : goal.grouped_places-requires-clause-below
grouped_places-requires-clause-below c = below_kept (λ place. place < 1000 * region_size c.args.sizes) (is_given_nonzero (entries_of c.args.table.now)) c.args.table.now.places.items c.as_slice.result.now (c.as_slice.ensures.value ∙ c.in_ok-in_order.ensures) c.requires.below

pub returns : goal.returns
returns c =
    let grouped : AreGrouped c.args.sizes c.in_ok-in_order.in_order.items c.in_ok-grouped.grouped.items = subst (λ xs. AreGrouped c.args.sizes xs c.in_ok-grouped.grouped.items) c.as_slice.ensures.value c.in_ok-grouped.ensures in
    record {
      in_order = c.in_ok-in_order.ensures;
      rising = grouped.rising;
      grouped = grouped_of c.args.sizes c.args.table.now c.in_ok-in_order.in_order.items c.in_ok-grouped.grouped.items c.in_ok-in_order.ensures grouped;
    }
