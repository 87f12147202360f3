use Rattle.scaled_decimals.proofs.Common.{◌≡◌, ◌+◌, ◌*◌, ◌++◌, pos, ap, ◌∙◌, to_z, of_z, unsigned_abs, w128, signed_by, value_of, back_in_range, sign_of, places_text, nearest}
use Rattle.scaled_decimals.proofs.PrintedTexts.{OnOk-same, places_text-pieces}
use Rattle.scaled_decimals.proofs.printing.push_places.Goals as goal

pub returns-clause-text : goal.returns-clause-text
returns-clause-text c =
    let num : to_z w128 (of_z w128 c.args.v.num) ≡ c.args.v.num = back_in_range c.args.v.num c.args.v.num_fits in
    let den : to_z w128 (of_z w128 c.args.v.den) ≡ c.args.v.den = back_in_range c.args.v.den c.args.v.den_fits in
    let size : c.unsigned_abs.result ≡ unsigned_abs c.args.v.num = c.unsigned_abs.ensures.value ∙ ap unsigned_abs num in
    let below : c.unsigned_abs-2.result ≡ unsigned_abs c.args.v.den = c.unsigned_abs-2.ensures.value ∙ ap unsigned_abs den in
    OnOk-same c.push_pieces.result c.push_pieces.new.out.items c.args.out.now.items
    (c.sign.result.now ++ c.as_bytes.result.now ++ c.point_and_digits.result)
    (places_text (value_of c.args.v))
    c.push_pieces.ensures.text
    (places_text-pieces c.args.v.num c.args.v.den c.round-rounded.result.whole c.round-rounded.result.millionths
    c.round-rounded.ensures.below
    (c.round-rounded.ensures.value ∙ ap (λ n. nearest (1000000 * n) c.unsigned_abs-2.result) size
    ∙ ap (λ d. nearest (1000000 * unsigned_abs c.args.v.num) d) below)
    _ _ _
    (c.sign.ensures.value ∙ ap (λ n. sign_of (signed_by n (pos (1000000 * c.round-rounded.result.whole + c.round-rounded.result.millionths)))) num)
    (c.as_bytes.ensures.value ∙ c.format.ensures.text)
    c.point_and_digits.ensures)
