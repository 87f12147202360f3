-- One variable after another.
use Rattle.row_problem.proofs.Common.{◌≡◌, ◌+◌, ◌<◌, ◌≤◌, ℕ, ℤ, pos, neg_ℤ, refl, ◌∷◌, Option, List, Some, length, get_or, drop, sym, ap, ap₂, ◌∙◌, subst, arith, zero-add, err_from_is_err_and, back_in_range, Var, keys_of, width_of}
use Rattle.int_tableau.specs.Starts.{placed}
use Rattle.int_tableau.proofs.LoopLaws.{no_variable}
use Rattle.decimal_solver.proofs.Words.{IsLeft, Entries, with_entry, raised, scaled_number, unit, entries_seen}
use Rattle.decimal_solver.proofs.FoldLaws.{left-next, left-stop, plain-at, plain-end}
use Rattle.decimal_solver.proofs.LineLaws.{read}
use Rattle.decimal_solver.proofs.StartLaws.{placed-within}
use Rattle.decimal_solver.proofs.starting.cost_entries.Goals as goal
use Rattle.decimal_solver.proofs.starting.cost_entries.Goals.{then-is_split+in_ok-push_entry+in_ok-push_entry-2, else-is_split+in_ok-raised+in_ok-push_entry-3}

-- the next of the places
place-at : {whole : Option Entries} {step : Entries → Var × ℕ → Option Entries} {made : Entries} (ps items : List (Var × ℕ)) (i : ℕ) → ps ≡ items → i < length ps → IsLeft whole step made (drop i items)
    → IsLeft whole step made (get_or ps i (no_variable, 0) ∷ drop (i + 1) items)
place-at {whole} {step} {made} ps items i e h r =
    subst (λ (xs : List (Var × ℕ)). IsLeft whole step made (get_or xs i (no_variable, 0) ∷ drop (i + 1) items)) (sym e) (plain-at items i (no_variable, 0) (subst (λ (xs : List (Var × ℕ)). i < length xs) e h) r)

pub returns-in_err-number-clause-nothing : goal.returns-in_err-number-clause-nothing
returns-in_err-number-clause-nothing c =
    let here = place-at c.deref-place-items.result.now c.args.layout.now.places.items c.loop-place.place-index c.deref-place-items.ensures.value c.loop-place-test.true c.loop-place.invariant in
    let same = ap (λ n. scaled_number (pos unit) n c.args.own) (back_in_range c.number_of.result c.number_of.ensures.range ∙ c.number_of.ensures.value) in
    let q = err_from_is_err_and c.from_residual-in_err-number.result c.from_residual-in_err-number.ensures.1 in
    rw (q.1, q.2) (left-stop here _ c.in_err-number.field-0.0 (λ h. rw (sym same ∙ h) refl) c.in_err-number.ensures.nothing)

pub overflow_add-place : goal.overflow_add-place
overflow_add-place c =
    let layout = c.args.layout.now in
    let i = c.loop-place.place-index in
    let all : c.deref-place-items.result.now ≡ placed 0 (keys_of layout.places.items) = c.deref-place-items.ensures.value ∙ sym layout.placed in
    let within : i < length (placed 0 (keys_of layout.places.items)) = omega (arith, c.loop-place-test.true, ap (λ (xs : List (Var × ℕ)). length xs) all, ap (λ (xs : List (Var × ℕ)). length xs) c.deref-place-items.ensures.value) in
    let there : (get_or c.deref-place-items.result.now i (no_variable, 0)).1 + 1 ≤ width_of (keys_of layout.places.items) =
    subst (λ (xs : List (Var × ℕ)). (get_or xs i (no_variable, 0)).1 + 1 ≤ width_of (keys_of layout.places.items)) (sym all)
    (subst (λ n. (get_or (placed 0 (keys_of layout.places.items)) i (no_variable, 0)).1 + 1 ≤ n) (zero-add (width_of (keys_of layout.places.items))) (placed-within 0 (keys_of layout.places.items) i (no_variable, 0) within)) in
    record { fits = omega (arith, there, layout.width_is, layout.countable) }

pub returns-in_err-raised-clause-nothing : goal.returns-in_err-raised-clause-nothing
returns-in_err-raised-clause-nothing c =
    let z : ℤ = c.in_ok-number.number in
    let here = place-at c.deref-place-items.result.now c.args.layout.now.places.items c.loop-place.place-index c.deref-place-items.ensures.value c.loop-place-test.true c.loop-place.invariant in
    let same = ap (λ n. scaled_number (pos unit) n c.args.own) (back_in_range c.number_of.result c.number_of.ensures.range ∙ c.number_of.ensures.value) in
    let back = ap raised (sym (back_in_range z c.in_ok-number.ensures.range)) in
    let q = err_from_is_err_and c.from_residual-in_err-raised.result c.from_residual-in_err-raised.ensures.1 in
    rw (q.1, q.2)
    (left-stop here (raised (read z)) c.in_err-raised.field-0.0 (λ h. rw (sym same ∙ c.in_ok-number.ensures.value, sym c.is_split.ensures ∙ c.if-is_split.false, back ∙ h) refl) c.in_err-raised.ensures.nothing)

pub loop-place-preserved : goal.loop-place-preserved
loop-place-preserved c =
    let p : Var × ℕ = get_or c.deref-place-items.result.now c.loop-place.place-index (no_variable, 0) in
    let made : Entries = entries_seen c.loop-place.made.items in
    let z : ℤ = c.in_ok-number.number in
    let z_is : read z ≡ z = back_in_range z c.in_ok-number.ensures.range in
    let here = place-at c.deref-place-items.result.now c.args.layout.now.places.items c.loop-place.place-index c.deref-place-items.ensures.value c.loop-place-test.true c.loop-place.invariant in
    let same = ap (λ n. scaled_number (pos unit) n c.args.own) (back_in_range c.number_of.result c.number_of.ensures.range ∙ c.number_of.ensures.value) in
    elim c.if-is_split.branch [
      | then-is_split+in_ok-push_entry+in_ok-push_entry-2 w ↦
          let one : entries_seen w.push_entry.new.entries.items ≡ with_entry made p.1 z = w.in_ok-push_entry.ensures.pushed ∙ ap (λ y. with_entry made p.1 y) z_is in
          let negated : read w.opposite.result ≡ neg_ℤ z = back_in_range w.opposite.result w.opposite.ensures.range ∙ w.opposite.ensures.value ∙ ap neg_ℤ z_is in
          left-next here
          (rw (sym same ∙ c.in_ok-number.ensures.value, sym c.is_split.ensures ∙ w.if-is_split.true)
          (ap Some (sym (ap (λ m. entries_seen m.items) w.made-is ∙ w.in_ok-push_entry-2.ensures.pushed ∙ ap₂ (λ m y. with_entry m (p.1 + 1) y) one negated))))
      | else-is_split+in_ok-raised+in_ok-push_entry-3 w ↦
          let y : ℤ = w.in_ok-raised.field-0 in
          left-next here
          (rw (sym same ∙ c.in_ok-number.ensures.value, sym c.is_split.ensures ∙ w.if-is_split.false, ap raised (sym z_is) ∙ w.in_ok-raised.ensures.value)
          (ap Some (sym (ap (λ m. entries_seen m.items) w.made-is ∙ w.in_ok-push_entry-3.ensures.pushed ∙ ap (λ x. with_entry made p.1 x) (back_in_range y w.in_ok-raised.ensures.range)))))
    ]

pub returns-clause-value : goal.returns-clause-value
returns-clause-value c = plain-end c.args.layout.now.places.items c.loop-place.place-index (omega (arith, c.loop-place-test.false, ap (λ (xs : List (Var × ℕ)). length xs) c.deref-place-items.ensures.value)) c.loop-place.invariant
