-- The entries that are pushed are those of the line of z.
use Rattle.int_tableau.proofs.Common.{◌≡◌, ◌+◌, ◌++◌, ℕ, ℤ, true, List, [], length, map, sym, ap, ap₂, ◌∙◌, subst, add_assoc, to_z, of_z, if◌then◌else◌, w128, IfOk-weaker, InRange, back_in_range, Most, Var, ascends, keys_of, var_cmp, width_of, Line, inequality_of, program_of, IsSparse, line_seen, column_entries, placed}
use Rattle.int_tableau.proofs.StartLaws.{cost_line-seen, cost_entries-IsSparse}
use Rattle.int_tableau.proofs.TableauLaws.{length-mapped}
use Rattle.int_tableau.proofs.starting.cost_line.Goals as goal

-- the entries that are pushed, over the columns of the program
made : (places : List (Var × ℕ)) (vs : List Var) (given numbers : List (Var × ℤ)) (none all : List (ℕ × ℤ)) → none ≡ [] → given ≡ numbers → all ≡ none ++ column_entries Most places given → placed 0 (keys_of places) ≡ places → keys_of places ≡ vs
    → all ≡ column_entries Most (placed 0 vs) numbers
made places vs given numbers none all n g a p k =
    a
    ∙ ap₂ (λ (es : List (ℕ × ℤ)) (ns : List (Var × ℤ)). es ++ column_entries Most places ns) n g
    ∙ ap (λ (ps : List (Var × ℕ)). column_entries Most ps numbers) (sym p ∙ ap (λ (ws : List Var). placed 0 ws) k)

pub new-requires : goal.new-requires
new-requires c =
    let layout = c.args.layout.now in
    let reduced = c.args.reduced.now in
    let vs = reduced.columns.items in
    let up : ascends var_cmp vs ≡ true = subst (λ (ws : List Var). ascends var_cmp ws ≡ true) c.requires.variables layout.ascending in
    let more : ℕ = layout.rows + (if layout.artificial then 1 else 0) in
    let entries = made layout.places.items vs c.deref.result.now reduced.cost.items c.in_ok-entries.entries.items c.push_variables.new.entries.items c.in_ok-entries.ensures.items c.deref.ensures.value c.in_ok-push_variables.ensures.pushed layout.placed c.requires.variables in
    let columns : c.columns.result ≡ width_of vs + more = c.columns.ensures ∙ add_assoc layout.width layout.rows (if layout.artificial then 1 else 0) ∙ ap (λ w. w + more) (layout.width_is ∙ ap (λ (ws : List Var). width_of ws) c.requires.variables) in
    record {
      entries_sparse = subst (IsSparse 0 c.columns.result) (sym (c.deref-2.ensures.value ∙ entries))
          (subst (λ n. IsSparse 0 n (column_entries Most (placed 0 vs) reduced.cost.items)) (sym columns) (cost_entries-IsSparse vs more reduced.cost.items up c.requires.ascending c.requires.fits));
      right_fits = subst InRange (sym (back_in_range reduced.cost_rhs c.requires.right_fits)) c.requires.right_fits;
      own_fits = subst InRange (sym (back_in_range reduced.cost_own c.requires.own_fits)) c.requires.own_fits;
    }

pub returns : goal.returns
returns c =
    let layout = c.args.layout.now in
    let reduced = c.args.reduced.now in
    let vs = reduced.columns.items in
    let up : ascends var_cmp vs ≡ true = subst (λ (ws : List Var). ascends var_cmp ws ≡ true) c.requires.variables layout.ascending in
    let entries = made layout.places.items vs c.deref.result.now reduced.cost.items c.in_ok-entries.entries.items c.push_variables.new.entries.items c.in_ok-entries.ensures.items c.deref.ensures.value c.in_ok-push_variables.ensures.pushed layout.placed c.requires.variables in
    let rows : layout.rows ≡ length (map inequality_of reduced.rows.items) = c.requires.rows ∙ sym (length-mapped inequality_of reduced.rows.items) in
    let columns : c.columns.result ≡ width_of vs + length (map inequality_of reduced.rows.items) + (if layout.artificial then 1 else 0) =
    c.columns.ensures ∙ ap₂ (λ w n. w + n + (if layout.artificial then 1 else 0)) (layout.width_is ∙ ap (λ (ws : List Var). width_of ws) c.requires.variables) rows in
    IfOk-weaker c.new.result _ _ (λ l e. e
    ∙ ap₂ {C = Line} (λ n (es : List (ℕ × ℤ)). line_seen n es (to_z w128 (of_z w128 reduced.cost_rhs)) (to_z w128 (of_z w128 reduced.cost_own))) columns (c.deref-2.ensures.value ∙ entries)
    ∙ ap₂ {C = Line} (λ r o. line_seen (width_of vs + length (map inequality_of reduced.rows.items) + (if layout.artificial then 1 else 0)) (column_entries Most (placed 0 vs) reduced.cost.items) r o) (back_in_range reduced.cost_rhs c.requires.right_fits) (back_in_range reduced.cost_own c.requires.own_fits)
    ∙ cost_line-seen (program_of reduced) layout.artificial up c.requires.ascending c.requires.fits) c.new.ensures
