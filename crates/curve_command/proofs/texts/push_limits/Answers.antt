-- Limit by limit.
use Rattle.curve_command.proofs.Common.{ℕ, List, ◌++◌, ◌+◌, drop, map, ap, ◌∙◌, flat_map, limit_line, found_seen, Found, lines-next}
use Rattle.curve_command.proofs.texts.push_limits.Goals as goal

pub loop-found-preserved : goal.loop-found-preserved
loop-found-preserved c =
    let line_of = limit_line c.args.sets.now in
    let all = c.args.all.now in
    let i : ℕ = c.loop-found.found-index in
    let out : List ℕ = c.loop-found.out.items in
    let rest : List ℕ = flat_map line_of (map found_seen (drop (i + 1) all)) in
    let next = lines-next found_seen line_of all i c.found-item.result out (c.args.out.now.items ++ flat_map line_of (map found_seen all)) c.loop-found-test.true c.loop-found.invariant in
    ap (λ (text : List ℕ). text ++ rest) (c.in_ok-push_limit.ensures ∙ ap (λ (f : Found). out ++ line_of (found_seen f)) c.found-item.is) ∙ next
