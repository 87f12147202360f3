-- Place by place.
use Rattle.plan_compare.proofs.Common.{ℕ, ◌+◌, List, ◌++◌, ◌∷◌, [], map, filter, sym, ap, ◌∙◌, append_assoc, arith, fields_of, Fields, member, counts}
use Rattle.plan_compare.proofs.TextLaws.{kept-joined}
use Rattle.plan_compare.proofs.RangeLaws.{from_to, range_next}
use Rattle.plan_compare.proofs.records.push_members.Goals as goal

pub loop-place-preserved : goal.loop-place-preserved
loop-place-preserved c =
    let made : List ℕ → Fields = λ places. map (member c.args.sets.now c.args.at) (filter (counts c.args.section.by_year c.args.section.kind) places) in
    let before : Fields = fields_of c.loop-place.fields in
    let left : List ℕ = from_to (c.loop-place.place + 1) 8 in
    record {
      fields =
          ap (λ t. t ++ made left) c.in_ok-push_member.ensures.fields
          ∙ append_assoc before (made (c.loop-place.place ∷ [])) (made left)
          ∙ ap (λ t. before ++ t) (sym (kept-joined (counts c.args.section.by_year c.args.section.kind) (member c.args.sets.now c.args.at) (c.loop-place.place ∷ []) left))
          ∙ sym (ap (λ places. before ++ made places) (range_next c.loop-place.place 8 (omega (arith, c.loop-place-test.true))))
          ∙ c.loop-place.invariant.fields;
      whole = c.in_ok-push_member.ensures.whole;
    }
