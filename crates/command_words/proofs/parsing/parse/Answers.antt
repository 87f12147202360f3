use Rattle.command_words.proofs.Common.{◌≡◌, ◌∙◌, Some, ap, inl, inr, map, option_map, string_bytes, app_of, found_of, rows_of, first_value-rows, raw_values-rows, given_of, value_by}
use Rattle.std.specs.Prelude.{codes, unwrap_or, []}
use Rattle.command_words.proofs.ClapLaws.{is_taken, is_refused, simple, simple_and_free}
use Rattle.command_words.proofs.ClapReads.{clap_gives, given_rows, words_utf8}
use Rattle.command_words.proofs.parsing.parse.Goals as goal

pub returns-in-Ok : goal.returns-in-Ok
returns-in-Ok c =
    let built = c.in_ok-any_options.ensures in
    let found = found_of c.in-Ok.matches in
    let is : given_of c.in-Ok.matches ≡ given_rows (rows_of found) =
    λ i. record { words = unwrap_or (raw_values-rows found (codes "file") i) []; value = value_by (λ name. first_value-rows found name i) } in
    ap Some is
    ∙ ap (option_map given_rows) (is_taken (app_of c.in_ok-any_options.field-0) _ _ built (c.in-Ok.ensures.kinds (simple_and_free _ built)) (c.in-Ok.ensures.matches (simple _ built)).0)
    ∙ clap_gives (map string_bytes c.args.words.now) (words_utf8 c.args.words.now)

pub returns : goal.returns
returns c =
    let built = c.in_ok-any_options.ensures in
    elim (c.in-Err.ensures.kinds (simple_and_free _ built)) [
      | inl memory ↦ absurd (c.in_default.not-OutOfMemory (c.kind.ensures ∙ memory))
      | inr among ↦ ap (option_map given_rows) (is_refused (app_of c.in_ok-any_options.field-0) _ _ built among) ∙ clap_gives (map string_bytes c.args.words.now) (words_utf8 c.args.words.now)
    ]
