use Rattle.mps_writer.proofs.Common.{◌≡◌, ◌++◌, subst, ap, ◌∙◌, List, rules, IsPermutation, filter, always_returns_same, IsRearranged, entries_of_kind, is_of, Entry}
use Rattle.mps_writer.proofs.RearrangedLaws.{put-back, sorted-rearranged}
use Rattle.mps_writer.proofs.SortedEntries.{variable_of, Rises-from_sorted, stable-by_variable}
use Rattle.mps_writer.proofs.kind_entries.sorted_entries_of_kind.Goals as goal

pub returns-clause-sorted : goal.returns-clause-sorted
returns-clause-sorted g c =
    let all : List Entry = entries_of_kind c.args.kind (g.R.RowSource.rows c.args.rows.now) in
    let gathered : List Entry = c.add_kind.new.entries.items in
    let pieces : List Entry = c.sort_pieces.new.entries in
    let sorted : List Entry = c.sort_by_key.new.self.items in
    let are : gathered ≡ all = c.in-Ok.ensures.added ∙ ap (λ (es : List Entry). es ++ all) c.new-entries.ensures.items in
    let passed : c.deref_mut.result.now ≡ gathered = c.deref_mut.ensures.value in
    let rearranged : IsRearranged c.deref_mut.result.now pieces = c.in_ok-sort_pieces.ensures in
    let back = put-back c.deref_mut.result.now pieces _ _ c.deref_mut.ensures.len rearranged in
    sorted-rearranged all pieces sorted (subst (λ (entries : List Entry). IsRearranged entries pieces) (passed ∙ are) rearranged)
    record {
      same = subst (λ (entries : List Entry). IsPermutation entries sorted) back c.in_ok-sort_by_key.ensures.permutation;
      rising = Rises-from_sorted sorted (c.in_ok-sort_by_key.ensures.sorted variable_of (always_returns_same _ _ _ (λ a r q k. search rules)));
      stable = λ v. stable-by_variable _ _ (c.in_ok-sort_by_key.ensures.stable variable_of (always_returns_same _ _ _ (λ a r q k. search rules))) v ∙ ap (filter (is_of v)) back;
    }
