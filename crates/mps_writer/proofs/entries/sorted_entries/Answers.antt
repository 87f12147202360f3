use Rattle.mps_writer.proofs.Common.{subst, ap, ◌∙◌, List, rules, IsPermutation, filter, always_returns_same, is_of, Entry}
use Rattle.mps_writer.proofs.SortedEntries.{variable_of, Rises-from_sorted, stable-by_variable}
use Rattle.mps_writer.proofs.entries.sorted_entries.Goals as goal

pub returns : goal.returns
returns c = record {
  same = subst (λ (entries : List Entry). IsPermutation entries c.sort_by_key.new.self.items) c.in_ok-entries.ensures c.in_ok-sort_by_key.ensures.permutation;
  rising = Rises-from_sorted c.sort_by_key.new.self.items (c.in_ok-sort_by_key.ensures.sorted variable_of (always_returns_same _ _ _ (λ a r q k. search rules)));
  stable = λ v. stable-by_variable _ _ (c.in_ok-sort_by_key.ensures.stable variable_of (always_returns_same _ _ _ (λ a r q k. search rules))) v ∙ ap (filter (is_of v)) c.in_ok-entries.ensures;
}
