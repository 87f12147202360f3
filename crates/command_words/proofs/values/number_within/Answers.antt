use Rattle.command_words.proofs.Common.{◌≡◌, ◌∙◌, ◌<◌, ◌≤◌, ◌^◌, length, rules, arith, true, sym, Ok, Err, is_ascii_digit, list_all, digits_value}
use Rattle.std.proofs.lemmas.Str.Parse.{IsNumeralModel, digits_value_short, numerals_by_value, parse_gives}
use Rattle.command_words.proofs.values.number_within.Goals as goal

-- so few digits always fit
pub returns-in_default-3 : goal.returns-in_default-3
returns-in_default-3 c =
    let text = c.args.text.now in
    let own : IsNumeralModel (λ ds. list_all is_ascii_digit ds ≡ true) (digits_value 10) = numerals_by_value _ (search rules) in
    let digits : list_all is_ascii_digit text ≡ true = search rules in
    let some : 0 < length text = search rules in
    let few : length text ≤ 9 = search rules in
    let short : digits_value 10 text < 10 ^ 9 = digits_value_short own text 9 digits few in
    let given = parse_gives own 32 text c.parse.result c.parse.ensures.value.0 digits some (omega (arith, short)) in
    let bad : Err c.in_default.field-0 ≡ Ok (digits_value 10 text) = sym c.in_default.is ∙ given in
    absurd cc
