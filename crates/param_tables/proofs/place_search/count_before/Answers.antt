use Rattle.param_tables.proofs.Common.{◌<◌, ◌≤◌, get_or, arith, Ok, Err, searched, below_from_sorted, sorted_from_strictly_increasing}
use Rattle.param_tables.proofs.EntryLaws.{rising_all}
use Rattle.param_tables.proofs.place_search.count_before.Goals as goal

pub returns-in-Ok-clause-before : goal.returns-in-Ok-clause-before
returns-in-Ok-clause-before c k less =
    let places = c.args.places.now in
    let at = searched places c.args.start (Ok c.in-Ok.i) c.in-Ok.ensures.position (rising_all places c.requires) in
    let below : get_or places k 0 < get_or places c.in-Ok.i 0 = below_from_sorted places k c.in-Ok.i 0 (sorted_from_strictly_increasing places c.requires) less at.0 in
    let here = at.1 in
    omega arith

pub returns-in-Ok-clause-after : goal.returns-in-Ok-clause-after
returns-in-Ok-clause-after c k low below =
    let places = c.args.places.now in
    let at = searched places c.args.start (Ok c.in-Ok.i) c.in-Ok.ensures.position (rising_all places c.requires) in
    let above : get_or places c.in-Ok.i 0 ≤ get_or places k 0 = rising_all places c.requires c.in-Ok.i k low below in
    let here = at.1 in
    omega arith

pub returns-in-Err-clause-before : goal.returns-in-Err-clause-before
returns-in-Err-clause-before c k less =
    let places = c.args.places.now in
    let at = searched places c.args.start (Err c.in-Err.i) c.in-Err.ensures.position (rising_all places c.requires) in
    at.1 k less

pub returns-in-Err-clause-after : goal.returns-in-Err-clause-after
returns-in-Err-clause-after c k low below =
    let places = c.args.places.now in
    let at = searched places c.args.start (Err c.in-Err.i) c.in-Err.ensures.position (rising_all places c.requires) in
    let above = at.2 k low below in
    omega arith
