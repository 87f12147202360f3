-- The entries that are pushed are those of the row's line.
use Rattle.int_tableau.proofs.Common.{◌≡◌, ◌+◌, ◌++◌, ℕ, ℤ, pos, Bool, List, [], ◌∷◌, sym, ap, ap₂, ◌∙◌, subst, to_z, of_z, lit<, if◌then◌else◌, w128, append_assoc, IfOk-weaker, InRange, all_fit, back_in_range, Sense, Var, keys_of, numbers_of, row_fits, rhs_fits, as_most, width_of, Line, inequality_of, IsSparse, line_seen, column_entries, placed, x0_column}
use Rattle.int_tableau.proofs.StartLaws.{row_line-seen, row_entries-IsSparse}
use Rattle.int_tableau.proofs.starting.row_line.Goals as goal

pub push_variables-requires : goal.push_variables-requires
push_variables-requires c = record { fits = ap (λ (es : List (Var × ℤ)). all_fit (numbers_of es)) c.deref.ensures.value ∙ row_fits c.args.row.now }

-- the entries that are pushed, over the columns of the variables as they are kept
made : (sense : Sense) (places : List (Var × ℕ)) (width rows position : ℕ) (there : Bool) (given numbers : List (Var × ℤ)) (none variables slack all : List (ℕ × ℤ)) → none ≡ [] → given ≡ numbers
    → variables ≡ none ++ column_entries sense places given → slack ≡ variables ++ (width + position, pos 1) ∷ [] → all ≡ slack ++ x0_column there (width + rows) → placed 0 (keys_of places) ≡ places → width ≡ width_of (keys_of places)
    → all ≡ column_entries sense (placed 0 (keys_of places)) numbers ++ ((width_of (keys_of places) + position, pos 1) ∷ x0_column there (width_of (keys_of places) + rows))
made sense places width rows position there given numbers none variables slack all n g v s a p w =
    a
    ∙ ap (λ (es : List (ℕ × ℤ)). es ++ x0_column there (width + rows)) (s ∙ ap (λ (es : List (ℕ × ℤ)). es ++ (width + position, pos 1) ∷ []) (v ∙ ap₂ (λ (es : List (ℕ × ℤ)) (ns : List (Var × ℤ)). es ++ column_entries sense places ns) n g))
    ∙ append_assoc (column_entries sense places numbers) ((width + position, pos 1) ∷ []) (x0_column there (width + rows))
    ∙ ap₂ (λ (ps : List (Var × ℕ)) (k : ℕ). column_entries sense ps numbers ++ ((k + position, pos 1) ∷ x0_column there (k + rows))) (sym p) w

pub new-requires : goal.new-requires
new-requires c =
    let layout = c.args.layout.now in
    let row = c.args.row.now in
    let vs = keys_of layout.places.items in
    let entries = made row.sense layout.places.items layout.width layout.rows c.args.position layout.artificial c.deref.result.now row.entries.items c.in_ok-entries.entries.items c.push_variables.new.entries.items c.push.new.self.items c.push_x0.new.entries.items
    c.in_ok-entries.ensures.items c.deref.ensures.value c.in_ok-push_variables.ensures.pushed c.in_ok-push.ensures.items c.in_ok-push_x0.ensures.pushed layout.placed layout.width_is in
    let columns : c.columns.result ≡ width_of vs + layout.rows + (if layout.artificial then 1 else 0) = c.columns.ensures ∙ ap (λ w. w + layout.rows + (if layout.artificial then 1 else 0)) layout.width_is in
    record {
      entries_sparse = subst (IsSparse 0 c.columns.result) (sym (c.deref-2.ensures.value ∙ entries))
          (subst (λ n. IsSparse 0 n (column_entries row.sense (placed 0 vs) row.entries.items ++ ((width_of vs + c.args.position, pos 1) ∷ x0_column layout.artificial (width_of vs + layout.rows)))) (sym columns)
          (row_entries-IsSparse vs layout.artificial layout.rows c.args.position row.sense row.entries.items c.requires layout.ascending row.ascending (row_fits row)));
      right_fits = subst InRange (sym (back_in_range c.as_most.result c.as_most.ensures.range)) c.as_most.ensures.range;
      own_fits = lit< tt;
    }

pub returns : goal.returns
returns c =
    let layout = c.args.layout.now in
    let row = c.args.row.now in
    let vs = keys_of layout.places.items in
    let entries = made row.sense layout.places.items layout.width layout.rows c.args.position layout.artificial c.deref.result.now row.entries.items c.in_ok-entries.entries.items c.push_variables.new.entries.items c.push.new.self.items c.push_x0.new.entries.items
    c.in_ok-entries.ensures.items c.deref.ensures.value c.in_ok-push_variables.ensures.pushed c.in_ok-push.ensures.items c.in_ok-push_x0.ensures.pushed layout.placed layout.width_is in
    let columns : c.columns.result ≡ width_of vs + layout.rows + (if layout.artificial then 1 else 0) = c.columns.ensures ∙ ap (λ w. w + layout.rows + (if layout.artificial then 1 else 0)) layout.width_is in
    let right : to_z w128 (of_z w128 c.as_most.result) ≡ as_most row.sense row.rhs = back_in_range c.as_most.result c.as_most.ensures.range ∙ c.as_most.ensures.value ∙ ap (as_most row.sense) (back_in_range row.rhs (rhs_fits row)) in
    IfOk-weaker c.new.result _ _ (λ l e. e
    ∙ ap₂ {C = Line} (λ n (es : List (ℕ × ℤ)). line_seen n es (to_z w128 (of_z w128 c.as_most.result)) (pos 0)) columns (c.deref-2.ensures.value ∙ entries)
    ∙ ap {B = Line} (λ z. line_seen (width_of vs + layout.rows + (if layout.artificial then 1 else 0)) (column_entries row.sense (placed 0 vs) row.entries.items ++ ((width_of vs + c.args.position, pos 1) ∷ x0_column layout.artificial (width_of vs + layout.rows))) z (pos 0)) right
    ∙ row_line-seen vs layout.artificial layout.rows c.args.position (inequality_of row) c.requires layout.ascending row.ascending (row_fits row)) c.new.ensures
