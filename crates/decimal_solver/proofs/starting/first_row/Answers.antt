-- The row, part by part.
use Rattle.row_problem.proofs.Common.{◌≡◌, ◌++◌, ℤ, pos, List, [], ◌∷◌, Some, sym, ap, ◌∙◌, to_z, of_z, w128, to_z_pos, map-append, all_fit, back_in_range, Var, numbers_of, row_fits, rhs_fits, as_most}
use Rattle.std.proofs.lemmas.List.{append_assoc}
use Rattle.decimal_solver.proofs.Words.{Entry, Entries, lowered, scaled_number, unit, first_entries, greatest_entry, entries_seen, entry_seen}
use Rattle.decimal_solver.proofs.starting.first_row.Goals as goal

pub greatest_entry-m-requires : goal.greatest_entry-m-requires
greatest_entry-m-requires c = ap (λ (es : List (Var × ℤ)). all_fit (numbers_of es)) c.deref.ensures.value ∙ row_fits c.args.row.now

pub first_entries-requires : goal.first_entries-requires
first_entries-requires c = ap (λ (es : List (Var × ℤ)). all_fit (numbers_of es)) c.deref-2.ensures.value ∙ row_fits c.args.row.now

-- two entries after those of variables
two_more : (es now more all : List Entry) (x y : Entry) → more ≡ now ++ x ∷ [] → all ≡ more ++ y ∷ [] → entries_seen all ≡ entries_seen now ++ (entry_seen x ∷ entry_seen y ∷ [])
two_more es now more all x y p q =
    ap (λ (xs : List Entry). entries_seen xs) (q ∙ ap (λ (xs : List Entry). xs ++ y ∷ []) p ∙ append_assoc now (x ∷ []) (y ∷ []))
    ∙ map-append entry_seen now (x ∷ y ∷ [])

pub returns-clause-value : goal.returns-clause-value
returns-clause-value c =
    let layout = c.args.layout.now in
    let row = c.args.row.now in
    let places = layout.places.items in
    let f : ℤ = to_z w128 (of_z w128 c.as_most-f.result) in
    let m = c.greatest_entry-m.result in
    let f_is : f ≡ as_most row.sense (pos unit) = back_in_range c.as_most-f.result c.as_most-f.ensures.range ∙ c.as_most-f.ensures.value in
    let m_is : m ≡ greatest_entry 0 row.entries.items = c.greatest_entry-m.ensures.value ∙ ap (λ (es : List (Var × ℤ)). greatest_entry 0 es) c.deref.ensures.value in
    let es : Entries = entries_seen c.in_ok-entries.entries.items in
    let entries_are : first_entries f m places [] row.entries.items ≡ Some es = ap (λ (ns : List (Var × ℤ)). first_entries f m places [] ns) (sym c.deref-2.ensures.value) ∙ c.in_ok-entries.ensures.value in
    let z : ℤ = c.in_ok-scaled_number.field-0 in
    let z_is : scaled_number f row.rhs m ≡ Some z = ap (λ r. scaled_number f r m) (sym (back_in_range row.rhs (rhs_fits row))) ∙ c.in_ok-scaled_number.ensures.value in
    let b : ℤ = to_z w128 (of_z w128 c.in_ok-right.right) in
    let b_is : lowered z ≡ Some b = ap lowered (sym (back_in_range z c.in_ok-scaled_number.ensures.range)) ∙ c.in_ok-right.ensures.value ∙ ap Some (sym (back_in_range c.in_ok-right.right c.in_ok-right.ensures.range)) in
    let scale_is : to_z w128 (of_z w128 c.as_most.result) ≡ as_most row.sense (pos m) = back_in_range c.as_most.result c.as_most.ensures.range ∙ c.as_most.ensures.value ∙ ap (as_most row.sense) (to_z_pos w128 m c.greatest_entry-m.ensures.range) in
    let all = two_more c.in_ok-entries.entries.items c.in_ok-entries.entries.items c.push.new.self.items c.push-2.new.self.items _ _ c.in_ok-push.ensures.items c.in_ok-push-2.ensures.items in
    rw (sym f_is, sym m_is, entries_are, z_is, b_is) (cc (all, scale_is))
