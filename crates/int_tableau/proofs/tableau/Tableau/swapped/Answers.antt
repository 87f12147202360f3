use Rattle.int_tableau.proofs.Common.{◌≡◌, ◌<◌, ℕ, pos, List, length, get_or, set, neg_ℤ, sym, ap, ◌∙◌, subst, arith, length-set, length-swap, Line, Counted, HaveColumns, AreBelow, get_or_default, no_line}
use Rattle.int_tableau.proofs.ListLaws.{HaveColumns-at, HaveColumns-set}
use Rattle.int_tableau.proofs.TableauLaws.{length-map}
use Rattle.int_tableau.proofs.SwapLaws.{HaveColumns-swap, AreBelow-swap, owns-set, owns-swap}
use Rattle.int_tableau.proofs.tableau.Tableau.swapped.Goals as goal

pub invariant_of-self : goal.invariant_of-self
invariant_of-self c =
    let n = c.self.inside.columns in
    let lines : List Line = c.self.inside.lines.items in
    let basics : List ℕ = c.self.inside.basics.items in
    let row = c.args.row in
    let home = c.args.home in
    let some : length basics < length lines = c.self.invariant.line_of_z in
    let row_within : row < length basics = subst (λ (t : Counted). row < length t.tableau.basics) (sym c.self.view_is) c.requires.row in
    let home_within : home < length basics = subst (λ (t : Counted). home < length t.tableau.basics) (sym c.self.view_is) c.requires.home in
    let line : length c.negate.new.self.entries ≡ n =
    ap (λ (l : Line). length l.entries) c.negate.ensures
    ∙ length-map neg_ℤ c.index_mut.result.now.entries
    ∙ ap (λ (l : Line). length l.entries) c.index_mut.ensures.value
    ∙ HaveColumns-at n lines row c.index_mut.result.now c.self.invariant.have_columns (omega arith) in
    let in_lines : row < length lines = omega arith in
    let own_is : c.negate.new.self.own ≡ pos 0 =
    ap (λ (l : Line). l.own) c.negate.ensures
    ∙ ap (λ (l : Line). neg_ℤ l.own) (c.index_mut.ensures.value ∙ get_or_default lines row c.index_mut.result.now no_line in_lines)
    ∙ ap neg_ℤ (c.self.invariant.no_own row row_within) in
    let within : (i : ℕ) → i < length c.swap-2.new.self.items → i < length basics = λ i h. omega (arith, h, ap (λ (ls : List ℕ). length ls) c.swap-2.ensures.items, length-swap basics row home) in
    let changed : List Line = set lines row c.negate.new.self in
    let count : length changed ≡ length lines = length-set lines row c.negate.new.self in
    record {
      countable = c.self.invariant.countable;
      no_own = λ i h. subst (λ (ls : List Line). (get_or ls i no_line).own ≡ pos 0) (sym c.swap.ensures.items)
          (owns-swap changed (length basics) row home (omega arith) row_within home_within
          (owns-set lines (length basics) row c.negate.new.self (omega arith) row_within own_is c.self.invariant.no_own) i (within i h));
      have_columns = subst (HaveColumns n) (sym c.swap.ensures.items) (HaveColumns-swap n changed row home (omega arith) (omega arith) (HaveColumns-set n lines row c.negate.new.self c.self.invariant.have_columns line));
      below = subst (AreBelow n) (sym c.swap-2.ensures.items) (AreBelow-swap n basics row home row_within home_within c.self.invariant.below);
      line_of_z = omega (arith, ap (λ (ls : List Line). length ls) c.swap.ensures.items, length-swap changed row home, ap (λ (ls : List ℕ). length ls) c.swap-2.ensures.items, length-swap basics row home);
    }
