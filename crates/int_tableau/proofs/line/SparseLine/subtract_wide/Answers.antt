-- The entries, the right side and the own entry, each by the same rule.
use Rattle.int_tableau.proofs.Common.{◌≡◌, ◌<◌, ℕ, ℤ, Bool, true, false, List, sym, ap, ap₂, ◌∙◌, subst, to_z, of_z, zero-add, w128, err_from_is_err_and, InRange, all_fit, back_in_range, at, IsSparse, line_seen}
use Rattle.written_method.specs.Lines.{Line, numbers_of, less, less_formed, line_less, all_less_formed, lowest_line}
use Rattle.int_tableau.proofs.DivisionLaws.{IsSparse-fit}
use Rattle.int_tableau.proofs.LineLaws.{same_columns, other_seen, spread-wide, spread-fit, line_less-seen, line_wide-entries, line_wide-right, line_wide-own, line_fits-all, entries-refused}
use Rattle.int_tableau.proofs.line.SparseLine.subtract_wide.Goals as goal

pub combine-requires-clause-other : goal.combine-requires-clause-other
combine-requires-clause-other c =
    let n = c.self.inside.columns in
    let m = c.other.inside.columns in
    let ys = c.other.inside.entries in
    let same : m ≡ n = same_columns n m c.self.inside.entries ys c.self.inside.right c.self.inside.own c.other.inside.right c.other.inside.own c.args.self.now c.args.other.now c.self.view_is c.other.view_is c.requires.same in
    subst (IsSparse 0 n) (sym (c.deref-2.ensures.value ∙ c.in_ok-write_to-2.ensures)) (subst (λ k. IsSparse 0 k ys) same c.other.invariant.entries_sparse)

-- where the numbers of the two lines don't all fit
wide : (a b : ℤ) (x y u v : Line) → u ≡ x → v ≡ y → all_fit (all_less_formed a b (numbers_of u) (numbers_of v)) ≡ false → all_fit (all_less_formed a b (numbers_of x) (numbers_of y)) ≡ false
wide a b x y u v e f h = ap₂ (λ k l. all_fit (all_less_formed a b (numbers_of k) (numbers_of l))) (sym e) (sym f) ∙ h

pub returns-in_err-combine-clause-stopped : goal.returns-in_err-combine-clause-stopped
returns-in_err-combine-clause-stopped c =
    let n = c.self.inside.columns in
    let m = c.other.inside.columns in
    let xs = c.self.inside.entries in
    let ys = c.other.inside.entries in
    let a : ℤ = c.args.a in
    let b : ℤ = c.args.b in
    let a' : ℤ = to_z w128 (of_z w128 a) in
    let b' : ℤ = to_z w128 (of_z w128 b) in
    let same : m ≡ n = same_columns n m xs ys c.self.inside.right c.self.inside.own c.other.inside.right c.other.inside.own c.args.self.now c.args.other.now c.self.view_is c.other.view_is c.requires.same in
    let x : Line = line_seen n xs c.self.inside.right c.self.inside.own in
    let y : Line = line_seen n ys c.other.inside.right c.other.inside.own in
    let y_is : y ≡ c.args.other.now = other_seen n m ys c.other.inside.right c.other.inside.own c.args.other.now same c.other.view_is in
    let fits : Bool = all_fit (all_less_formed a b (numbers_of c.args.self.now) (numbers_of c.args.other.now)) in
    let from : (k : ℕ) → k < n → all_fit (less_formed a' b' (at c.deref.result.now k) (at c.deref-2.result.now k)) ≡ false → fits ≡ false =
    λ k h w. wide a b c.args.self.now c.args.other.now x y c.self.view_is y_is
    (line_wide-entries a b x y
    (spread-wide a b (at xs) (at ys) 0 n k h
    (ap (λ d. all_fit (less_formed a b (at xs d) (at ys d))) (zero-add k)
    ∙ ap₂ (λ s t. all_fit (less_formed s t (at xs k) (at ys k))) (sym (back_in_range a c.requires.a)) (sym (back_in_range b c.requires.b))
    ∙ ap₂ (λ (s t : List (ℕ × ℤ)). all_fit (less_formed a' b' (at s k) (at t k))) (sym (c.deref.ensures.value ∙ c.in_ok-write_to.ensures)) (sym (c.deref-2.ensures.value ∙ c.in_ok-write_to-2.ensures))
    ∙ w))) in
    let stop = entries-refused n a' b' c.deref.result.now c.deref-2.result.now fits c.in_err-combine.field-0.0 from c.in_err-combine.ensures.stopped in
    let p = err_from_is_err_and c.from_residual-in_err-combine.result c.from_residual-in_err-combine.ensures.1 in
    rw (p.1, p.2) stop

pub returns-in_default-clause-stopped : goal.returns-in_default-clause-stopped
returns-in_default-clause-stopped c =
    let n = c.self.inside.columns in
    let m = c.other.inside.columns in
    let xs = c.self.inside.entries in
    let ys = c.other.inside.entries in
    let a_fits : InRange c.args.a = c.requires.a in
    let b_fits : InRange c.args.b = c.requires.b in
    let r_fits : InRange c.self.inside.right = c.self.invariant.right_fits in
    let s_fits : InRange c.other.inside.right = c.other.invariant.right_fits in
    let same : m ≡ n = same_columns n m xs ys c.self.inside.right c.self.inside.own c.other.inside.right c.other.inside.own c.args.self.now c.args.other.now c.self.view_is c.other.view_is c.requires.same in
    let x : Line = line_seen n xs c.self.inside.right c.self.inside.own in
    let y : Line = line_seen n ys c.other.inside.right c.other.inside.own in
    let y_is : y ≡ c.args.other.now = other_seen n m ys c.other.inside.right c.other.inside.own c.args.other.now same c.other.view_is in
    wide c.args.a c.args.b c.args.self.now c.args.other.now x y c.self.view_is y_is (line_wide-right c.args.a c.args.b x y (sym (simp back_in_range at c.in_default.ensures.refused)))

pub returns-in_default-less-clause-stopped : goal.returns-in_default-less-clause-stopped
returns-in_default-less-clause-stopped c =
    let n = c.self.inside.columns in
    let m = c.other.inside.columns in
    let xs = c.self.inside.entries in
    let ys = c.other.inside.entries in
    let a_fits : InRange c.args.a = c.requires.a in
    let b_fits : InRange c.args.b = c.requires.b in
    let o_fits : InRange c.self.inside.own = c.self.invariant.own_fits in
    let p_fits : InRange c.other.inside.own = c.other.invariant.own_fits in
    let same : m ≡ n = same_columns n m xs ys c.self.inside.right c.self.inside.own c.other.inside.right c.other.inside.own c.args.self.now c.args.other.now c.self.view_is c.other.view_is c.requires.same in
    let x : Line = line_seen n xs c.self.inside.right c.self.inside.own in
    let y : Line = line_seen n ys c.other.inside.right c.other.inside.own in
    let y_is : y ≡ c.args.other.now = other_seen n m ys c.other.inside.right c.other.inside.own c.args.other.now same c.other.view_is in
    wide c.args.a c.args.b c.args.self.now c.args.other.now x y c.self.view_is y_is (line_wide-own c.args.a c.args.b x y (sym (simp back_in_range at c.in_default-less.ensures.refused)))

pub divide-right-requires-clause-fits : goal.divide-right-requires-clause-fits
divide-right-requires-clause-fits c = IsSparse-fit 0 c.self.inside.columns c.combine.new.out.items c.in_ok-combine.ensures.sparse

pub of-requires : goal.of-requires
of-requires c =
    let n = c.self.inside.columns in
    IsSparse-fit 0 n c.deref-3.result.now (subst (IsSparse 0 n) (sym c.deref-3.ensures.value) (c.divide-right.ensures.sparse n c.in_ok-combine.ensures.sparse))

pub size_of_line-self-inside-requires-clause-fits : goal.size_of_line-self-inside-requires-clause-fits
size_of_line-self-inside-requires-clause-fits c =
    let n = c.self.inside.columns in
    IsSparse-fit 0 n c.in_ok-self-inside.field-0 (subst (IsSparse 0 n) (sym (c.in_ok-self-inside.ensures ∙ c.deref-3.ensures.value)) (c.divide-right.ensures.sparse n c.in_ok-combine.ensures.sparse))

pub last_of-self-inside-requires : goal.last_of-self-inside-requires
last_of-self-inside-requires c =
    let n = c.self.inside.columns in
    subst (IsSparse 0 n) (sym (c.in_ok-self-inside.ensures ∙ c.deref-3.ensures.value)) (c.divide-right.ensures.sparse n c.in_ok-combine.ensures.sparse)

pub invariant_of-self : goal.invariant_of-self
invariant_of-self c =
    let n = c.self.inside.columns in
    record {
      entries_sparse = subst (IsSparse 0 n) (sym (c.in_ok-self-inside.ensures ∙ c.deref-3.ensures.value)) (c.divide-right.ensures.sparse n c.in_ok-combine.ensures.sparse);
      right_fits = subst InRange (sym (back_in_range c.divide-right.result.0 c.divide-right.ensures.right)) c.divide-right.ensures.right;
      own_fits = subst InRange (sym (back_in_range c.divide-right.result.1 c.divide-right.ensures.own)) c.divide-right.ensures.own;
      sized = c.size_of_line-self-inside.ensures;
      marked = c.mark.ensures;
      last_is = c.last_of-self-inside.ensures;
    }

pub returns-clause-value : goal.returns-clause-value
returns-clause-value c =
    let n = c.self.inside.columns in
    let m = c.other.inside.columns in
    let xs = c.self.inside.entries in
    let ys = c.other.inside.entries in
    let out = c.combine.new.out.items in
    let a : ℤ = c.args.a in
    let b : ℤ = c.args.b in
    let a_fits : InRange c.args.a = c.requires.a in
    let b_fits : InRange c.args.b = c.requires.b in
    let r_fits : InRange c.self.inside.right = c.self.invariant.right_fits in
    let s_fits : InRange c.other.inside.right = c.other.invariant.right_fits in
    let o_fits : InRange c.self.inside.own = c.self.invariant.own_fits in
    let p_fits : InRange c.other.inside.own = c.other.invariant.own_fits in
    let x_fits : InRange c.in-Ok.right = c.in-Ok.ensures.range in
    let y_fits : InRange c.in-Ok-less.own = c.in-Ok-less.ensures.range in
    let same : m ≡ n = same_columns n m xs ys c.self.inside.right c.self.inside.own c.other.inside.right c.other.inside.own c.args.self.now c.args.other.now c.self.view_is c.other.view_is c.requires.same in
    let y_is : line_seen n ys c.other.inside.right c.other.inside.own ≡ c.args.other.now = other_seen n m ys c.other.inside.right c.other.inside.own c.args.other.now same c.other.view_is in
    let right : c.in-Ok.right ≡ less a b c.self.inside.right c.other.inside.right = simp back_in_range at c.in-Ok.ensures.value in
    let own : c.in-Ok-less.own ≡ less a b c.self.inside.own c.other.inside.own = simp back_in_range at c.in-Ok-less.ensures.value in
    let values : (k : ℕ) → at out k ≡ less a b (at xs k) (at ys k) =
    λ k. c.in_ok-combine.ensures.value k
    ∙ ap₂ (λ s t. less s t (at c.deref.result.now k) (at c.deref-2.result.now k)) (back_in_range a c.requires.a) (back_in_range b c.requires.b)
    ∙ ap₂ (λ (s t : List (ℕ × ℤ)). less a b (at s k) (at t k)) (c.deref.ensures.value ∙ c.in_ok-write_to.ensures) (c.deref-2.ensures.value ∙ c.in_ok-write_to-2.ensures) in
    ap {B = Line} (λ (es : List (ℕ × ℤ)). line_seen n es (to_z w128 (of_z w128 c.divide-right.result.0)) (to_z w128 (of_z w128 c.divide-right.result.1))) (c.in_ok-self-inside.ensures ∙ c.deref-3.ensures.value)
    ∙ ap₂ (λ s t. line_seen n c.divide-right.new.entries.items s t) (back_in_range c.divide-right.result.0 c.divide-right.ensures.right) (back_in_range c.divide-right.result.1 c.divide-right.ensures.own)
    ∙ c.divide-right.ensures.line n c.in_ok-combine.ensures.sparse
    ∙ ap lowest_line
    (ap₂ (λ s t. line_seen n out s t) (back_in_range c.in-Ok.right x_fits ∙ right) (back_in_range c.in-Ok-less.own y_fits ∙ own)
    ∙ line_less-seen n a b xs ys out c.self.inside.right c.other.inside.right c.self.inside.own c.other.inside.own values
    ∙ ap₂ (line_less a b) c.self.view_is y_is)

pub returns-clause-fits : goal.returns-clause-fits
returns-clause-fits c =
    let n = c.self.inside.columns in
    let m = c.other.inside.columns in
    let xs = c.self.inside.entries in
    let ys = c.other.inside.entries in
    let a : ℤ = c.args.a in
    let b : ℤ = c.args.b in
    let a_fits : InRange c.args.a = c.requires.a in
    let b_fits : InRange c.args.b = c.requires.b in
    let r_fits : InRange c.self.inside.right = c.self.invariant.right_fits in
    let s_fits : InRange c.other.inside.right = c.other.invariant.right_fits in
    let o_fits : InRange c.self.inside.own = c.self.invariant.own_fits in
    let p_fits : InRange c.other.inside.own = c.other.invariant.own_fits in
    let same : m ≡ n = same_columns n m xs ys c.self.inside.right c.self.inside.own c.other.inside.right c.other.inside.own c.args.self.now c.args.other.now c.self.view_is c.other.view_is c.requires.same in
    let x : Line = line_seen n xs c.self.inside.right c.self.inside.own in
    let y : Line = line_seen n ys c.other.inside.right c.other.inside.own in
    let y_is : y ≡ c.args.other.now = other_seen n m ys c.other.inside.right c.other.inside.own c.args.other.now same c.other.view_is in
    let each : (k : ℕ) → all_fit (less_formed a b (at xs k) (at ys k)) ≡ true =
    λ k. ap₂ (λ s t. all_fit (less_formed s t (at xs k) (at ys k))) (sym (back_in_range a c.requires.a)) (sym (back_in_range b c.requires.b))
    ∙ ap₂ (λ (s t : List (ℕ × ℤ)). all_fit (less_formed (to_z w128 (of_z w128 a)) (to_z w128 (of_z w128 b)) (at s k) (at t k))) (sym (c.deref.ensures.value ∙ c.in_ok-write_to.ensures)) (sym (c.deref-2.ensures.value ∙ c.in_ok-write_to-2.ensures))
    ∙ c.in_ok-combine.ensures.fits k in
    ap₂ (λ k l. all_fit (all_less_formed a b (numbers_of k) (numbers_of l))) (sym c.self.view_is) (sym y_is)
    ∙ line_fits-all a b x y (sym (simp back_in_range at c.in-Ok.ensures.refused)) (sym (simp back_in_range at c.in-Ok-less.ensures.refused)) (spread-fit a b (at xs) (at ys) 0 n each)
