use Rattle.int_tableau.proofs.Common.{◌≡◌, ◌≢◌, ℕ, ℤ, pos, List, ◌++◌, [], ◌∷◌, sym, ap, ◌∙◌, subst, to_z, of_z, w64, AreNarrow, IsPushed}
use Rattle.int_tableau.proofs.MergeLaws.{pushed, not_pushed}
use Rattle.int_tableau.proofs.NarrowLaws.{back_narrow, narrow_fits, AreNarrow-last}
use Rattle.int_tableau.proofs.narrow_merging.push_unless_zero.Goals as goal

written : (c : goal.After-push_reserved) → c.push_reserved.new.self.items ≡ c.args.out.now.items ++ (c.args.column, c.args.number) ∷ []
written c = c.push_reserved.ensures.items ∙ ap {B = List (ℕ × ℤ)} (λ w. c.args.out.now.items ++ (c.args.column, w) ∷ []) (back_narrow c.args.number c.requires.number)

pub returns-then-number-ne0-clause-pushed : goal.returns-then-number-ne0-clause-pushed
returns-then-number-ne0-clause-pushed c =
    let z : ℤ = c.args.number in
    let out : List (ℕ × ℤ) = c.args.out.now.items in
    let some : z ≢ pos 0 = λ e. c.if-number-ne0.true (ap (λ w. of_z w64 w) e) in
    subst (λ (xs : List (ℕ × ℤ)). IsPushed c.args.column z out xs) (sym (written c)) (pushed c.args.column z out some (narrow_fits z c.requires.number))

pub returns-else-number-ne0-clause-pushed : goal.returns-else-number-ne0-clause-pushed
returns-else-number-ne0-clause-pushed c =
    let none : c.args.number ≡ pos 0 = sym (back_narrow c.args.number c.requires.number) ∙ ap (λ n. to_z w64 n) c.if-number-ne0.false in
    not_pushed c.args.column c.args.number c.args.out.now.items none

pub returns-then-number-ne0-clause-narrow : goal.returns-then-number-ne0-clause-narrow
returns-then-number-ne0-clause-narrow c = λ h. subst (λ (xs : List (ℕ × ℤ)). AreNarrow xs) (sym (written c)) (AreNarrow-last c.args.out.now.items (c.args.column, c.args.number) h c.requires.number)
