use Rattle.int_tableau.proofs.Common.{◌≡◌, ◌≢◌, ℕ, ℤ, pos, List, ◌++◌, [], ◌∷◌, sym, ap, ◌∙◌, subst, to_z, of_z, w128, back_in_range, IsPushed}
use Rattle.int_tableau.proofs.MergeLaws.{pushed, not_pushed}
use Rattle.int_tableau.proofs.merging.push_unless_zero.Goals as goal

pub returns-in_ok-push-clause-pushed : goal.returns-in_ok-push-clause-pushed
returns-in_ok-push-clause-pushed c =
    let z : ℤ = c.args.number in
    let back : to_z w128 (of_z w128 z) ≡ z = back_in_range z c.requires in
    let some : z ≢ pos 0 = λ e. c.if-number-ne0.true (ap (λ w. of_z w128 w) e) in
    let items : c.push.new.self.items ≡ c.args.out.now.items ++ (c.args.column, z) ∷ [] =
    c.in_ok-push.ensures.items ∙ ap {B = List (ℕ × ℤ)} (λ w. c.args.out.now.items ++ (c.args.column, w) ∷ []) back in
    subst (λ (xs : List (ℕ × ℤ)). IsPushed c.args.column z c.args.out.now.items xs) (sym items) (pushed c.args.column z c.args.out.now.items some c.requires)

pub returns-else-number-ne0-clause-pushed : goal.returns-else-number-ne0-clause-pushed
returns-else-number-ne0-clause-pushed c =
    let none : c.args.number ≡ pos 0 = sym (back_in_range c.args.number c.requires) ∙ ap (λ n. to_z w128 n) c.if-number-ne0.false in
    not_pushed c.args.column c.args.number c.args.out.now.items none
