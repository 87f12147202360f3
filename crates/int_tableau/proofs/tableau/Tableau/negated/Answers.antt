use Rattle.int_tableau.proofs.Common.{◌≡◌, ◌<◌, ◌↔◌, ℕ, pos, List, length, get_or, set, neg_ℤ, sym, ap, ◌∙◌, subst, arith, length-set, Line, get_or_default, Solves, IsShaped-negated, Counted, negated_in}
use Rattle.written_method.specs.Tableaus.{Tableau as Written, no_line, negated_line}
use Rattle.int_tableau.proofs.ListLaws.{HaveColumns-at, HaveColumns-set}
use Rattle.int_tableau.proofs.TableauLaws.{length-map, IsShaped-of}
use Rattle.int_tableau.proofs.SolutionLaws.{Solves-negated}
use Rattle.int_tableau.proofs.tableau.Tableau.negated.Goals as goal

pub invariant_of-self : goal.invariant_of-self
invariant_of-self c =
    let n = c.self.inside.columns in
    let lines : List Line = c.self.inside.lines.items in
    let row = c.args.row in
    let within : row < length lines = subst (λ (t : Counted). row < length t.tableau.lines) (sym c.self.view_is) c.requires in
    let line : length c.negate.new.self.entries ≡ n =
    ap (λ (l : Line). length l.entries) c.negate.ensures
    ∙ length-map neg_ℤ c.index_mut.result.now.entries
    ∙ ap (λ (l : Line). length l.entries) c.index_mut.ensures.value
    ∙ HaveColumns-at n lines row c.index_mut.result.now c.self.invariant.have_columns within in
    let line_is : c.negate.new.self ≡ negated_line (get_or lines row no_line) = c.negate.ensures ∙ ap negated_line (c.index_mut.ensures.value ∙ get_or_default lines row c.index_mut.result.now no_line within) in
    let shape : Written = record { lines = lines; basics = c.self.inside.basics.items; columns = n } in
    record {
      have_columns = HaveColumns-set n lines row c.negate.new.self c.self.invariant.have_columns line;
      below = c.self.invariant.below;
      no_own = subst (λ (l : Line). (i : ℕ) → i < length c.self.inside.basics.items → (get_or (set lines row l) i no_line).own ≡ pos 0) (sym line_is)
          (IsShaped-negated shape row within (IsShaped-of n lines c.self.inside.basics.items c.self.invariant)).rows_own;
      countable = c.self.invariant.countable;
      line_of_z = omega (arith, length-set lines row c.negate.new.self, c.self.invariant.line_of_z);
    }

pub returns-clause-solutions : goal.returns-clause-solutions
returns-clause-solutions c v owns =
    let n = c.self.inside.columns in
    let lines : List Line = c.self.inside.lines.items in
    let basics : List ℕ = c.self.inside.basics.items in
    let row = c.args.row in
    let within : row < length lines = subst (λ (t : Counted). row < length t.tableau.lines) (sym c.self.view_is) c.requires in
    let line_is : c.negate.new.self ≡ negated_line (get_or lines row no_line) = c.negate.ensures ∙ ap negated_line (c.index_mut.ensures.value ∙ get_or_default lines row c.index_mut.result.now no_line within) in
    let value : record { tableau = record { lines = set lines row c.negate.new.self; basics = basics; columns = n }; pivots = c.self.inside.pivots } ≡ negated_in row c.args.self =
    ap {B = Counted} (λ (l : Line). record { tableau = record { lines = set lines row l; basics = basics; columns = n }; pivots = c.self.inside.pivots }) line_is
    ∙ ap (negated_in row) c.self.view_is in
    subst (λ (t : Counted). Solves t.tableau v owns ↔ Solves c.args.self.tableau v owns) (sym value) (Solves-negated c.args.self.tableau row v owns c.requires)
