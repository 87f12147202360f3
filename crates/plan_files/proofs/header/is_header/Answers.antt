-- Ten fields that are each that of the header.
use Rattle.plan_files.proofs.Common.{◌≡◌, ℕ, ◌<◌, List, [], length, get_or, refl, sym, ◌∙◌, arith, get_or_default, same_lists, fields_of, header}
use Rattle.plan_files.proofs.header.is_header.Goals as goal

pub returns : goal.returns
returns c =
    let fields = fields_of c.args.fields.now in
    let ten : length fields ≡ 10 = sym c.len.ensures ∙ c.if-len-ne-FIELD_COUNT.false in
    let all : (k : ℕ) (d : List ℕ) → k < length fields → get_or fields k d ≡ get_or header k d =
    λ k d l. get_or_default fields k d [] l ∙ c.loop-place.invariant k (omega (arith, l, ten, c.loop-place-test.false)) ∙ get_or_default header k [] d (omega (arith, l, ten)) in
    ((λ yes. same_lists fields header ten all), λ same. refl)
