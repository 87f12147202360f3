use Rattle.param_tables.proofs.Common.{◌≡◌, ℕ, ◌<◌, List, [], ◌∷◌, ◌++◌, length, get_or, sym, ap, ◌∙◌, subst, is_given_nonzero, is_nonzero_value, entries_of}
use Rattle.std.specs.Prelude.{slice_get}
use Rattle.param_tables.proofs.EntryLaws.{copied_at}
use Rattle.param_tables.proofs.NonzeroLaws.{filter_kept, filter_left, nonzero_at_place}
use Rattle.param_tables.proofs.ratio_places.nonzero_places.Goals as goal
use Rattle.param_tables.proofs.ratio_places.nonzero_places.Goals.{then-is_nonzero+in_ok-push, else-is_nonzero}

pub loop-i-preserved : goal.loop-i-preserved
loop-i-preserved c =
    let table = c.args.table.now in
    let places = table.places.items in
    let values = table.values.items in
    let i = c.loop-i.i in
    let same : c.deref-place-items.result.now ≡ places = c.deref-place-items.ensures.value in
    let below : i < length places = let P : List ℕ → Type 0 = λ all. i < length all in subst P same c.loop-i-test.true in
    let at : c.copied.result ≡ slice_get values i = c.copied.ensures ∙ copied_at c.deref.result.now i c.get.result c.get.ensures.lookup ∙ ap (λ vs. slice_get vs i) c.deref.ensures.value in
    let test : is_given_nonzero (entries_of table) (get_or places i 0) ≡ c.is_nonzero.result = nonzero_at_place places values i c.requires.ascending c.requires.long below ∙ ap is_nonzero_value (sym at) ∙ sym c.is_nonzero.ensures in
    elim c.if-is_nonzero.branch [
      | then-is_nonzero+in_ok-push w ↦ ap (λ v. v.items) w.nonzero-is ∙ w.in_ok-push.ensures.items ∙ ap (λ all. c.loop-i.nonzero.items ++ get_or all i 0 ∷ []) same ∙ filter_kept (is_given_nonzero (entries_of table)) places c.loop-i.nonzero.items i below (test ∙ w.if-is_nonzero.true) c.loop-i.invariant
      | else-is_nonzero w ↦ ap (λ v. v.items) w.nonzero-is ∙ filter_left (is_given_nonzero (entries_of table)) places c.loop-i.nonzero.items i below (test ∙ w.if-is_nonzero.false) c.loop-i.invariant
    ]
