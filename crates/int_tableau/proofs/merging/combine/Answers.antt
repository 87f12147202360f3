-- One column after another.
use Rattle.int_tableau.proofs.Common.{◌≡◌, ℕ, suc, ◌<◌, ◌≤◌, ℤ, true, List, drop, sym, ap₂, ◌∙◌, subst, arith, to_z, of_z, w128, InRange, all_fit, back_in_range, less, less_formed, at, IsSparse, head_column, taken_number, taken_rest, IsPushed}
use Rattle.int_tableau.proofs.EntryLaws.{head_column-from, head_column-below, IsSparse-taken, taken_number-fits}
use Rattle.int_tableau.proofs.MergeLaws.{IsMerge, IsMerge-none, IsMerge-column, IsMerge-taken, IsMerge-value, IsMerge-fits}
use Rattle.int_tableau.proofs.merging.combine.Goals as goal

pub loop-column-init : goal.loop-column-init
loop-column-init c =
    let n = c.args.columns in
    let first = c.next_column-column.ensures.left in
    let below : head_column n c.args.line.now ≤ n = head_column-below 0 n c.args.line.now c.requires.line in
    record {
      merge = subst (λ (xs : List (ℕ × ℤ)). IsMerge n (to_z w128 (of_z w128 c.args.a)) (to_z w128 (of_z w128 c.args.b)) c.args.line.now c.args.other.now c.next_column-column.result c.args.line.now c.args.other.now xs) (sym c.clear.ensures.items)
          (IsMerge-none n (to_z w128 (of_z w128 c.args.a)) (to_z w128 (of_z w128 c.args.b)) c.args.line.now c.args.other.now c.next_column-column.result c.requires.line c.requires.other first c.next_column-column.ensures.right);
      within = omega arith;
    }

pub returns-in_default-clause-stopped : goal.returns-in_default-clause-stopped
returns-in_default-clause-stopped c =
    let m = c.loop-column.invariant.merge in
    let column = c.loop-column.column in
    let xs = c.args.line.now in
    let ys = c.args.other.now in
    let ls : List (ℕ × ℤ) = drop c.loop-column.left xs in
    let rs : List (ℕ × ℤ) = drop c.loop-column.right ys in
    let a : to_z w128 (of_z w128 c.args.a) ≡ c.args.a = back_in_range c.args.a c.requires.a in
    let b : to_z w128 (of_z w128 c.args.b) ≡ c.args.b = back_in_range c.args.b c.requires.b in
    let x_fits : InRange c.number_at-entry.result = subst InRange (sym c.number_at-entry.ensures) (taken_number-fits column column c.args.columns ls m.left) in
    let y_fits : InRange c.number_at-number.result = subst InRange (sym c.number_at-number.ensures) (taken_number-fits column column c.args.columns rs m.right) in
    let x = back_in_range c.number_at-entry.result x_fits ∙ c.number_at-entry.ensures in
    let y = back_in_range c.number_at-number.result y_fits ∙ c.number_at-number.ensures in (
      column,
      c.loop-column-test.true,
      ap₂ (λ s t. all_fit (less_formed s t (at xs column) (at ys column))) (sym a) (sym b)
          ∙ IsMerge-taken c.args.columns _ _ xs ys column ls rs c.loop-column.out.items m
          ∙ ap₂ (λ s t. all_fit (less_formed (to_z w128 (of_z w128 c.args.a)) (to_z w128 (of_z w128 c.args.b)) s t)) (sym x) (sym y)
          ∙ sym c.in_default.ensures.refused,
    )

pub loop-column-smaller : goal.loop-column-smaller
loop-column-smaller c =
    let m = c.loop-column.invariant.merge in
    let n = c.args.columns in
    let column = c.loop-column.column in
    let less_than : column < n = c.loop-column-test.true in
    let left : suc column ≤ head_column n (drop c.position_after-left.result c.args.line.now) = subst (λ (xs : List (ℕ × ℤ)). suc column ≤ head_column n xs) (sym c.position_after-left.ensures) (head_column-from (suc column) n _ (IsSparse-taken column n _ m.left) (omega arith)) in
    let right : suc column ≤ head_column n (drop c.position_after-right.result c.args.other.now) = subst (λ (xs : List (ℕ × ℤ)). suc column ≤ head_column n xs) (sym c.position_after-right.ensures) (head_column-from (suc column) n _ (IsSparse-taken column n _ m.right) (omega arith)) in
    let next : suc column ≤ c.next_column-column-in-loop-column.result = c.next_column-column-in-loop-column.ensures.least (suc column) left right in
    omega arith

pub loop-column-preserved : goal.loop-column-preserved
loop-column-preserved c =
    let m = c.loop-column.invariant.merge in
    let n = c.args.columns in
    let column = c.loop-column.column in
    let less_than : column < n = c.loop-column-test.true in
    let xs = c.args.line.now in
    let ys = c.args.other.now in
    let ls : List (ℕ × ℤ) = drop c.loop-column.left xs in
    let rs : List (ℕ × ℤ) = drop c.loop-column.right ys in
    let a : ℤ = to_z w128 (of_z w128 c.args.a) in
    let b : ℤ = to_z w128 (of_z w128 c.args.b) in
    let to = c.next_column-column-in-loop-column.result in
    let l = c.position_after-left.ensures in
    let r = c.position_after-right.ensures in
    let sparse_left : IsSparse (suc column) n (taken_rest column ls) = IsSparse-taken column n ls m.left in
    let sparse_right : IsSparse (suc column) n (taken_rest column rs) = IsSparse-taken column n rs m.right in
    let left : suc column ≤ head_column n (drop c.position_after-left.result xs) = subst (λ (zs : List (ℕ × ℤ)). suc column ≤ head_column n zs) (sym l) (head_column-from (suc column) n (taken_rest column ls) sparse_left (omega arith)) in
    let right : suc column ≤ head_column n (drop c.position_after-right.result ys) = subst (λ (zs : List (ℕ × ℤ)). suc column ≤ head_column n zs) (sym r) (head_column-from (suc column) n (taken_rest column rs) sparse_right (omega arith)) in
    let next : suc column ≤ to = c.next_column-column-in-loop-column.ensures.least (suc column) left right in
    let to_left : to ≤ head_column n (taken_rest column ls) = subst (λ (zs : List (ℕ × ℤ)). to ≤ head_column n zs) l c.next_column-column-in-loop-column.ensures.left in
    let to_right : to ≤ head_column n (taken_rest column rs) = subst (λ (zs : List (ℕ × ℤ)). to ≤ head_column n zs) r c.next_column-column-in-loop-column.ensures.right in
    let below : head_column n (taken_rest column ls) ≤ n = head_column-below (suc column) n (taken_rest column ls) sparse_left in
    let x_fits : InRange c.number_at-entry.result = subst InRange (sym c.number_at-entry.ensures) (taken_number-fits column column n ls m.left) in
    let y_fits : InRange c.number_at-number.result = subst InRange (sym c.number_at-number.ensures) (taken_number-fits column column n rs m.right) in
    let x : to_z w128 (of_z w128 c.number_at-entry.result) ≡ taken_number column ls = back_in_range c.number_at-entry.result x_fits ∙ c.number_at-entry.ensures in
    let y : to_z w128 (of_z w128 c.number_at-number.result) ≡ taken_number column rs = back_in_range c.number_at-number.result y_fits ∙ c.number_at-number.ensures in
    let fit : all_fit (less_formed a b (taken_number column ls) (taken_number column rs)) ≡ true = ap₂ (λ s t. all_fit (less_formed a b s t)) (sym x) (sym y) ∙ sym c.in-Ok.ensures.refused in
    let number : to_z w128 (of_z w128 c.in-Ok.rest) ≡ less a b (taken_number column ls) (taken_number column rs) = back_in_range c.in-Ok.rest c.in-Ok.ensures.range ∙ c.in-Ok.ensures.value ∙ ap₂ (less a b) x y in
    let pushed : IsPushed column (less a b (taken_number column ls) (taken_number column rs)) c.loop-column.out.items c.push_unless_zero.new.out.items =
    subst (λ (z : ℤ). IsPushed column z c.loop-column.out.items c.push_unless_zero.new.out.items) number c.in_ok-push_unless_zero.ensures.pushed in
    let step : IsMerge n a b xs ys to (taken_rest column ls) (taken_rest column rs) c.push_unless_zero.new.out.items = IsMerge-column n a b xs ys column ls rs c.loop-column.out.items c.push_unless_zero.new.out.items to m fit pushed next to_left to_right in
    record {
      merge = subst (λ (zs : List (ℕ × ℤ)). IsMerge n a b xs ys to zs (drop c.position_after-right.result ys) c.push_unless_zero.new.out.items) (sym l)
          (subst (λ (zs : List (ℕ × ℤ)). IsMerge n a b xs ys to (taken_rest column ls) zs c.push_unless_zero.new.out.items) (sym r) step);
      within = omega arith;
    }

pub returns-clause-value : goal.returns-clause-value
returns-clause-value c d =
    let a : to_z w128 (of_z w128 c.args.a) ≡ c.args.a = back_in_range c.args.a c.requires.a in
    let b : to_z w128 (of_z w128 c.args.b) ≡ c.args.b = back_in_range c.args.b c.requires.b in
    IsMerge-value c.args.columns _ _ c.args.line.now c.args.other.now c.loop-column.column _ _ c.loop-column.out.items c.loop-column.invariant.merge c.loop-column-test.false d
    ∙ ap₂ (λ x y. less x y (at c.args.line.now d) (at c.args.other.now d)) a b

pub returns-clause-fits : goal.returns-clause-fits
returns-clause-fits c d =
    let a : to_z w128 (of_z w128 c.args.a) ≡ c.args.a = back_in_range c.args.a c.requires.a in
    let b : to_z w128 (of_z w128 c.args.b) ≡ c.args.b = back_in_range c.args.b c.requires.b in
    ap₂ (λ x y. all_fit (less_formed x y (at c.args.line.now d) (at c.args.other.now d))) (sym a) (sym b)
    ∙ IsMerge-fits c.args.columns _ _ c.args.line.now c.args.other.now c.loop-column.column _ _ c.loop-column.out.items c.loop-column.invariant.merge c.loop-column-test.false d
