-- The entries, the right side and the own entry, each by the same rule.
use Rattle.int_tableau.proofs.Common.{◌≡◌, ℕ, ℤ, true, List, sym, ap, ap₂, ◌∙◌, subst, to_z, of_z, w128, InRange, all_fit, back_in_range, at, IsSparse, line_seen}
use Rattle.written_method.specs.Lines.{Line, numbers_of, less, less_formed, line_less, all_less_formed, lowest_line}
use Rattle.int_tableau.proofs.DivisionLaws.{IsSparse-fit}
use Rattle.int_tableau.proofs.LineLaws.{same_columns, other_seen, spread-fit, line_less-seen, line_fits-all}
use Rattle.int_tableau.proofs.line.SparseLine.subtract_narrow.Goals as goal

pub combine-combined-requires-clause-other : goal.combine-combined-requires-clause-other
combine-combined-requires-clause-other c =
    let n = c.self.inside.columns in
    let m = c.other.inside.columns in
    let ys = c.other.inside.entries in
    let same : m ≡ n = same_columns n m c.self.inside.entries ys c.self.inside.right c.self.inside.own c.other.inside.right c.other.inside.own c.args.self.now c.args.other.now c.self.view_is c.other.view_is c.requires.same in
    subst (λ k. IsSparse 0 k ys) same c.other.invariant.entries_sparse

pub invariant_of-self : goal.invariant_of-self
invariant_of-self c = record {
  entries_sparse = c.in_err-replace.ensures.memory c.self.inside.columns c.self.invariant.entries_sparse;
  right_fits = c.self.invariant.right_fits;
  own_fits = c.self.invariant.own_fits;
  sized = record {
    entries_within = c.in_err-replace.ensures.within c.self.inside.size c.self.invariant.sized.entries_within;
    right_within = c.self.invariant.sized.right_within;
    own_within = c.self.invariant.sized.own_within;
  };
  last_is = tt;
  marked = c.in_err-replace.ensures.marked c.self.inside.marks c.self.invariant.marked;
}

pub invariant_of-self-2 : goal.invariant_of-self-2
invariant_of-self-2 c =
    let n = c.self.inside.columns in
    record {
      entries_sparse = subst (IsSparse 0 n) (sym (c.in_ok-replace.ensures.value ∙ c.deref.ensures.value)) (c.in-Some.ensures.sparse n c.in-Ok.ensures.sparse);
      right_fits = subst InRange (sym (back_in_range c.in-Some.right c.in-Some.ensures.right)) c.in-Some.ensures.right;
      own_fits = subst InRange (sym (back_in_range c.in-Some.own c.in-Some.ensures.own)) c.in-Some.ensures.own;
      sized = c.size_of_line-self-inside.ensures;
      marked = c.mark.ensures;
      last_is = c.last_of-self-inside.ensures;
    }

pub size_of_line-self-inside-requires-clause-fits : goal.size_of_line-self-inside-requires-clause-fits
size_of_line-self-inside-requires-clause-fits c =
    let n = c.self.inside.columns in
    IsSparse-fit 0 n c.replace.new.self (subst (IsSparse 0 n) (sym (c.in_ok-replace.ensures.value ∙ c.deref.ensures.value)) (c.in-Some.ensures.sparse n c.in-Ok.ensures.sparse))

pub last_of-self-inside-requires : goal.last_of-self-inside-requires
last_of-self-inside-requires c =
    let n = c.self.inside.columns in
    subst (IsSparse 0 n) (sym (c.in_ok-replace.ensures.value ∙ c.deref.ensures.value)) (c.in-Some.ensures.sparse n c.in-Ok.ensures.sparse)

pub returns-clause-value : goal.returns-clause-value
returns-clause-value c _ =
    let n = c.self.inside.columns in
    let m = c.other.inside.columns in
    let xs = c.self.inside.entries in
    let ys = c.other.inside.entries in
    let out = c.combine-combined.new.out.items in
    let a : ℤ = c.args.a in
    let b : ℤ = c.args.b in
    let a_fits : InRange c.args.a = c.requires.a in
    let b_fits : InRange c.args.b = c.requires.b in
    let r_fits : InRange c.self.inside.right = c.self.invariant.right_fits in
    let s_fits : InRange c.other.inside.right = c.other.invariant.right_fits in
    let o_fits : InRange c.self.inside.own = c.self.invariant.own_fits in
    let p_fits : InRange c.other.inside.own = c.other.invariant.own_fits in
    let x_fits : InRange c.in-Ok-difference.right = c.in-Ok-difference.ensures.range in
    let y_fits : InRange c.in-Ok-difference-2.own = c.in-Ok-difference-2.ensures.range in
    let same : m ≡ n = same_columns n m xs ys c.self.inside.right c.self.inside.own c.other.inside.right c.other.inside.own c.args.self.now c.args.other.now c.self.view_is c.other.view_is c.requires.same in
    let y_is : line_seen n ys c.other.inside.right c.other.inside.own ≡ c.args.other.now = other_seen n m ys c.other.inside.right c.other.inside.own c.args.other.now same c.other.view_is in
    let right : c.in-Ok-difference.right ≡ less a b c.self.inside.right c.other.inside.right = simp back_in_range at c.in-Ok-difference.ensures.value in
    let own : c.in-Ok-difference-2.own ≡ less a b c.self.inside.own c.other.inside.own = simp back_in_range at c.in-Ok-difference-2.ensures.value in
    let values : (k : ℕ) → at out k ≡ less a b (at xs k) (at ys k) =
    λ k. c.in-Ok.ensures.value k ∙ ap₂ (λ s t. less s t (at xs k) (at ys k)) (back_in_range a c.requires.a) (back_in_range b c.requires.b) in
    ap {B = Line} (λ (es : List (ℕ × ℤ)). line_seen n es (to_z w128 (of_z w128 c.in-Some.right)) (to_z w128 (of_z w128 c.in-Some.own))) (c.in_ok-replace.ensures.value ∙ c.deref.ensures.value)
    ∙ ap₂ (λ s t. line_seen n c.divide.new.entries.items s t) (back_in_range c.in-Some.right c.in-Some.ensures.right) (back_in_range c.in-Some.own c.in-Some.ensures.own)
    ∙ c.in-Some.ensures.line n c.in-Ok.ensures.sparse
    ∙ ap lowest_line
    (ap₂ (λ s t. line_seen n out s t) (back_in_range c.in-Ok-difference.right x_fits ∙ right) (back_in_range c.in-Ok-difference-2.own y_fits ∙ own)
    ∙ line_less-seen n a b xs ys out c.self.inside.right c.other.inside.right c.self.inside.own c.other.inside.own values
    ∙ ap₂ (line_less a b) c.self.view_is y_is)

pub returns-clause-fits : goal.returns-clause-fits
returns-clause-fits c _ =
    let n = c.self.inside.columns in
    let m = c.other.inside.columns in
    let xs = c.self.inside.entries in
    let ys = c.other.inside.entries in
    let a : ℤ = c.args.a in
    let b : ℤ = c.args.b in
    let a_fits : InRange c.args.a = c.requires.a in
    let b_fits : InRange c.args.b = c.requires.b in
    let r_fits : InRange c.self.inside.right = c.self.invariant.right_fits in
    let s_fits : InRange c.other.inside.right = c.other.invariant.right_fits in
    let o_fits : InRange c.self.inside.own = c.self.invariant.own_fits in
    let p_fits : InRange c.other.inside.own = c.other.invariant.own_fits in
    let same : m ≡ n = same_columns n m xs ys c.self.inside.right c.self.inside.own c.other.inside.right c.other.inside.own c.args.self.now c.args.other.now c.self.view_is c.other.view_is c.requires.same in
    let x : Line = line_seen n xs c.self.inside.right c.self.inside.own in
    let y : Line = line_seen n ys c.other.inside.right c.other.inside.own in
    let y_is : y ≡ c.args.other.now = other_seen n m ys c.other.inside.right c.other.inside.own c.args.other.now same c.other.view_is in
    let each : (k : ℕ) → all_fit (less_formed a b (at xs k) (at ys k)) ≡ true =
    λ k. ap₂ (λ s t. all_fit (less_formed s t (at xs k) (at ys k))) (sym (back_in_range a c.requires.a)) (sym (back_in_range b c.requires.b)) ∙ c.in-Ok.ensures.fits k in
    ap₂ (λ k l. all_fit (all_less_formed a b (numbers_of k) (numbers_of l))) (sym c.self.view_is) (sym y_is)
    ∙ line_fits-all a b x y (sym (simp back_in_range at c.in-Ok-difference.ensures.refused)) (sym (simp back_in_range at c.in-Ok-difference-2.ensures.refused)) (spread-fit a b (at xs) (at ys) 0 n each)
