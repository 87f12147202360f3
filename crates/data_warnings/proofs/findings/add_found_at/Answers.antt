-- The first of the members is one with which the rule speaks.
use Rattle.data_warnings.proofs.Common.{ℕ, ap, sym, ◌∙◌, subst, arith, place_at, frame_of, speaks, IsPlace, count}
use Rattle.data_warnings.proofs.FirstLaws.{IsFirst, first_kept}
use Rattle.data_warnings.proofs.findings.add_found_at.Goals as goal

pub finding-requires-clause-place : goal.finding-requires-clause-place
finding-requires-clause-place c =
    let test = λ (l : ℕ). speaks c.args.model.now c.args.rule (place_at c.args.i c.args.j c.args.k l) in
    let n = count c.args.model.now.facts (frame_of c.args.rule).last in
    let first : IsFirst test n c.in-Some.first.now =
    first_kept test 0 n n c.in-Some.first.now c.in-Some.more.now (omega arith) (sym c.in_ok-members.ensures ∙ sym c.as_slice.ensures.value ∙ c.in-Some.ensures.cases.0) in
    let within : IsPlace c.args.model.now.facts (frame_of c.args.rule) (place_at c.args.i c.args.j c.args.k c.in-Some.first.now) =
    record { first = c.requires.first; second = c.requires.second; third = c.requires.third; last = first.below } in
    subst (IsPlace c.args.model.now.facts (frame_of c.args.rule)) (sym c.place.ensures) within

pub finding-requires-clause-spoken : goal.finding-requires-clause-spoken
finding-requires-clause-spoken c =
    let test = λ (l : ℕ). speaks c.args.model.now c.args.rule (place_at c.args.i c.args.j c.args.k l) in
    let n = count c.args.model.now.facts (frame_of c.args.rule).last in
    let first : IsFirst test n c.in-Some.first.now =
    first_kept test 0 n n c.in-Some.first.now c.in-Some.more.now (omega arith) (sym c.in_ok-members.ensures ∙ sym c.as_slice.ensures.value ∙ c.in-Some.ensures.cases.0) in
    ap (speaks c.args.model.now c.args.rule) c.place.ensures ∙ first.passes
