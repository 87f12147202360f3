-- A stable sort by the rank is the order of the greatest first.
use Rattle.plan_compare.proofs.Common.{ℕ, ◌^◌, rules, on_ok_weaker, Change, size_of_change}
use Rattle.std.proofs.lemmas.Fn.{always_returns_same}
use Rattle.std.proofs.lemmas.List.Sorted.{IsNonDecreasingBy-from_sort_by_key}
use Rattle.plan_compare.proofs.GreatestFirstLaws.{rank, sorted_is}
use Rattle.plan_compare.proofs.SizeLaws.{small}
use Rattle.plan_compare.proofs.sorting.sort.Goals as goal

abbrev rank_of : Change → ℕ
rank_of = rank size_of_change (2 ^ 127) small

pub returns : goal.returns
returns c =
    on_ok_weaker _
    (λ sorted.
    sorted_is size_of_change (2 ^ 127) small c.args.changes.now.items c.sort_by_key.new.self.items
    (IsNonDecreasingBy-from_sort_by_key rank_of c.sort_by_key.new.self.items sorted (λ a r q k. search rules))
    (c.sort_by_key.ensures.stable rank_of (always_returns_same _ _ _ (λ a r q k. search rules))))
    c.sort_by_key.ensures.sorted
