use Rattle.int_tableau.proofs.Common.{◌≡◌, ◌<◌, ◌↔◌, ℕ, ◌+◌, ◌-◌, ◌^◌, List, length, get_or, map, take, sym, ap, ◌∙◌, subst, arith, Line, Solves, line_of-without, HaveColumns, HaveSome, IsNowhere, Counted, shortened, SolvesWithout}
use Rattle.written_method.specs.Tableaus.{Tableau as Written, no_line, without_last, without_x0}
use Rattle.int_tableau.proofs.TableauLaws.{HaveColumns-take, HaveSome-of, HaveColumns-without_last, AreBelow-nowhere, length-taken, length-mapped, IsShaped-of}
use Rattle.int_tableau.proofs.SolutionLaws.{Solves-without}
use Rattle.int_tableau.proofs.tableau.Tableau.without_x0.Goals as goal

pub drop_last_of_all-requires : goal.drop_last_of_all-requires
drop_last_of_all-requires c =
    let n = c.self.inside.columns in
    let some : 0 < n = subst (λ (t : Counted). 0 < t.tableau.columns) (sym c.self.view_is) c.requires.some in
    subst HaveSome (sym c.truncate.ensures.items) (HaveSome-of n (take (c.len.result + 1) c.self.inside.lines.items) some (HaveColumns-take n c.self.inside.lines.items (c.len.result + 1) c.self.invariant.have_columns))

pub overflow_sub-self : goal.overflow_sub-self
overflow_sub-self c =
    let some : 0 < c.self.inside.columns = subst (λ (t : Counted). 0 < t.tableau.columns) (sym c.self.view_is) c.requires.some in
    omega arith

pub invariant_of-self : goal.invariant_of-self
invariant_of-self c =
    let n = c.self.inside.columns in
    let lines : List Line = c.self.inside.lines.items in
    let basics : List ℕ = c.self.inside.basics.items in
    let k : ℕ = c.len.result + 1 in
    let count : c.len.result ≡ length basics = c.len.ensures ∙ c.self.inside.basics.ok.0 in
    let more : length basics < length lines = c.self.invariant.line_of_z in
    let items : c.drop_last_of_all.new.lines.items ≡ map without_last (take k lines) = c.drop_last_of_all.ensures ∙ ap (λ (ls : List Line). map without_last ls) c.truncate.ensures.items in
    let shape : Written = record { lines = lines; basics = basics; columns = n } in
    let nowhere : IsNowhere (n - 1) basics = subst (λ (t : Counted). IsNowhere (t.tableau.columns - 1) t.tableau.basics) (sym c.self.view_is) c.requires.not_basic in
    record {
      have_columns = subst (HaveColumns (n - 1)) (sym items) (HaveColumns-without_last n (take k lines) (HaveColumns-take n lines k c.self.invariant.have_columns));
      below = AreBelow-nowhere n basics c.self.invariant.below nowhere;
      no_own = λ i h.
          ap (λ (ls : List Line). (get_or ls i no_line).own) (items ∙ ap (λ m. map without_last (take m lines)) (ap (λ m. m + 1) count))
          ∙ ap (λ (l : Line). l.own) (line_of-without shape i more (omega arith))
          ∙ c.self.invariant.no_own i h;
      countable = let fits : n < 2 ^ 64 = c.self.invariant.countable in omega arith;
      line_of_z = omega (arith, ap (λ (ls : List Line). length ls) items, length-mapped without_last (take k lines), length-taken lines k (omega arith));
    }

pub returns-clause-solutions : goal.returns-clause-solutions
returns-clause-solutions c v owns =
    let n = c.self.inside.columns in
    let shaped = IsShaped-of n c.self.inside.lines.items c.self.inside.basics.items c.self.invariant in
    let some : 0 < n = subst (λ (t : Counted). 0 < t.tableau.columns) (sym c.self.view_is) c.requires.some in
    let lines : List Line = c.self.inside.lines.items in
    let basics : List ℕ = c.self.inside.basics.items in
    let count : c.len.result ≡ length basics = c.len.ensures ∙ c.self.inside.basics.ok.0 in
    let items : c.drop_last_of_all.new.lines.items ≡ map without_last (take (length basics + 1) lines) =
    c.drop_last_of_all.ensures ∙ ap (λ (ls : List Line). map without_last ls) c.truncate.ensures.items ∙ ap (λ m. map without_last (take (m + 1) lines)) count in
    let value : record { tableau = record { lines = c.drop_last_of_all.new.lines.items; basics = basics; columns = n - 1 }; pivots = c.self.inside.pivots } ≡ shortened c.args.self =
    ap {B = Counted} (λ (ls : List Line). record { tableau = record { lines = ls; basics = basics; columns = n - 1 }; pivots = c.self.inside.pivots }) items
    ∙ ap shortened c.self.view_is in
    subst (λ (t : Counted). Solves t.tableau v owns ↔ SolvesWithout c.args.self.tableau v owns) (sym value)
    (subst (λ (t : Counted). Solves (without_x0 t.tableau) v owns ↔ SolvesWithout t.tableau v owns) c.self.view_is
    (Solves-without (record { lines = c.self.inside.lines.items; basics = c.self.inside.basics.items; columns = n }) v owns shaped some))
