-- The code's numbers are those of the rough line.
use Rattle.simplex_core.proofs.Common.{◌≡◌, ℤ, ap₂, ◌∙◌, to_z, of_z, w64, less, Tableau, back_narrow}
use Rattle.simplex_core.proofs.ShortLaws.{home-rough, other-entry, other-right, other-last}
use Rattle.simplex_core.proofs.short_choice.rough_numbers.Goals as goal

pub returns-then-row-home : goal.returns-then-row-home
returns-then-row-home c = home-rough c.args.tableau.now.tableau c.args.home c.args.row c.args.at_home c.requires.home c.if-row-home.true c.requires.at_home

-- the difference by the numbers themselves
plain : (a b x y : ℤ) → to_z w64 (of_z w64 a) ≡ a → to_z w64 (of_z w64 b) ≡ b → to_z w64 (of_z w64 x) ≡ x → to_z w64 (of_z w64 y) ≡ y
    → less (to_z w64 (of_z w64 a)) (to_z w64 (of_z w64 b)) (to_z w64 (of_z w64 x)) (to_z w64 (of_z w64 y)) ≡ less a b x y
plain a b x y p q r s =
    ap₂ (λ u v. less u v (to_z w64 (of_z w64 x)) (to_z w64 (of_z w64 y))) p q ∙ ap₂ (λ u v. less a b u v) r s

pub returns : goal.returns
returns c =
    let t : Tableau = c.args.tableau.now.tableau in
    let h = c.args.home in
    let home = c.args.at_home in
    let own = c.in-Some.own in
    let n = c.if-row-home.false in
    let p : to_z w64 (of_z w64 home.last) ≡ home.last = back_narrow home.last home.last_narrow in
    let q : to_z w64 (of_z w64 own.last) ≡ own.last = back_narrow own.last own.last_narrow in
    record {
      entry_is =
          back_narrow c.in-Some-short_difference.entry c.in-Some-short_difference.ensures.narrow
          ∙ c.in-Some-short_difference.ensures.value
          ∙ plain home.last own.last own.entry home.entry p q (back_narrow own.entry own.entry_narrow) (back_narrow home.entry home.entry_narrow)
          ∙ other-entry t h c.args.row home own c.requires.home c.requires.row n c.requires.at_home c.in-Some.ensures;
      last_is = q ∙ other-last t h c.args.row own c.requires.home c.requires.row c.in-Some.ensures;
      right_is =
          back_narrow c.in-Some-short_difference-2.right c.in-Some-short_difference-2.ensures.narrow
          ∙ c.in-Some-short_difference-2.ensures.value
          ∙ plain home.last own.last own.right home.right p q (back_narrow own.right own.right_narrow) (back_narrow home.right home.right_narrow)
          ∙ other-right t h c.args.row home own c.requires.home c.requires.row n c.requires.at_home c.in-Some.ensures;
    }
