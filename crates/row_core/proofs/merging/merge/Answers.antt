-- One variable after another.
use Rattle.row_core.proofs.Common.{◌≡◌, ℤ, ◌++◌, true, false, drop, refl, sym, ap, ap₂, ◌∙◌, to_z, of_z, w128, all_fit, back_in_range, all_fit-nil, Beside, beside, less, less_formed, lessened, all_less_formed, entry_unless_zero}
use Rattle.row_core.proofs.BesideLaws.{lessened-step, formed-step, formed-stop}
use Rattle.row_core.proofs.merging.merge.Goals as goal

pub returns-in_default-less-clause-stopped : goal.returns-in_default-less-clause-stopped
returns-in_default-less-clause-stopped c =
    let es = c.args.entries.now in
    let os = c.args.others.now in
    let a : ℤ = to_z w128 (of_z w128 c.args.a) in
    let b : ℤ = to_z w128 (of_z w128 c.args.b) in
    let next = c.in-Some.next in
    let first : Beside = record { variable = next.variable; number = next.number; other = next.other } in
    let number = back_in_range next.number c.in-Some.ensures.found.number_fits in
    let other = back_in_range next.other c.in-Some.ensures.found.other_fits in
    let wide : all_fit (less_formed a b next.number next.other) ≡ false = ap₂ (λ x y. all_fit (less_formed a b x y)) (sym number) (sym other) ∙ sym c.in_default-less.ensures.refused in (
      refl,
      ap₂ (λ x y. all_fit (all_less_formed x y (beside es os))) (sym (back_in_range c.args.a c.requires.a)) (sym (back_in_range c.args.b c.requires.b))
          ∙ c.loop-next.invariant.formed
          ∙ formed-stop a b first (beside (drop c.loop-next.left es) (drop c.loop-next.right os)) (beside (drop next.left es) (drop next.right os)) c.in-Some.ensures.found.first wide,
    )

pub loop-next-preserved : goal.loop-next-preserved
loop-next-preserved c =
    let es = c.args.entries.now in
    let os = c.args.others.now in
    let a : ℤ = to_z w128 (of_z w128 c.args.a) in
    let b : ℤ = to_z w128 (of_z w128 c.args.b) in
    let next = c.in-Some.next in
    let first : Beside = record { variable = next.variable; number = next.number; other = next.other } in
    let now = beside (drop c.loop-next.left es) (drop c.loop-next.right os) in
    let later = beside (drop next.left es) (drop next.right os) in
    let number = back_in_range next.number c.in-Some.ensures.found.number_fits in
    let other = back_in_range next.other c.in-Some.ensures.found.other_fits in
    let fit : all_fit (less_formed a b next.number next.other) ≡ true = ap₂ (λ x y. all_fit (less_formed a b x y)) (sym number) (sym other) ∙ sym c.in-Ok.ensures.refused in
    let made : to_z w128 (of_z w128 c.in-Ok.number) ≡ less a b next.number next.other = back_in_range c.in-Ok.number c.in-Ok.ensures.range ∙ c.in-Ok.ensures.value ∙ ap₂ (less a b) number other in
    let pushed : c.push_unless_zero.new.entries.items ≡ c.loop-next.made.items ++ entry_unless_zero next.variable (less a b next.number next.other) =
    c.in_ok-push_unless_zero.ensures.pushed ∙ ap (λ z. c.loop-next.made.items ++ entry_unless_zero next.variable z) made in
    record {
      made = ap (λ ys. ys ++ lessened a b later) pushed ∙ lessened-step a b (lessened a b (beside es os)) c.loop-next.made.items first now later c.in-Some.ensures.found.first c.loop-next.invariant.made;
      formed = c.loop-next.invariant.formed ∙ formed-step a b first now later c.in-Some.ensures.found.first fit;
    }

pub returns-clause-fits : goal.returns-clause-fits
returns-clause-fits c =
    let es = c.args.entries.now in
    let os = c.args.others.now in
    let a : ℤ = to_z w128 (of_z w128 c.args.a) in
    let b : ℤ = to_z w128 (of_z w128 c.args.b) in
    ap₂ (λ x y. all_fit (all_less_formed x y (beside es os))) (sym (back_in_range c.args.a c.requires.a)) (sym (back_in_range c.args.b c.requires.b))
    ∙ c.loop-next.invariant.formed
    ∙ ap (λ ys. all_fit (all_less_formed a b ys)) c.in_default.ensures.none
    ∙ all_fit-nil
