use Rattle.std.proofs.Common.{◌≡◌, ◌∙◌, ap, ap₂, rules, true, codes}
use Rattle.std.proofs.lemmas.Result.{IfOk-weaker}
use Rattle.command_words.proofs.Common.{App, app_of, new_app, rule_of, with_rule, app_of_fields, on_top, file_rule}
use Rattle.command_words.proofs.parsing.with_files.Goals as goal

abbrev bare : App
bare = on_top (λ top. record top { no_binary_name = true; disable_help_flag = true }) (new_app (codes "osemosys"))

pub returns : goal.returns
returns c =
    let file_is : rule_of c.action-file.result ≡ file_rule = search rules in
    let bare_is : app_of c.disable_help_flag.result ≡ bare =
    ap app_of_fields c.disable_help_flag.ensures
    ∙ ap (λ fields. app_of_fields (record fields { disable_help_flag = true })) c.no_binary_name.ensures
    ∙ ap (on_top (λ top. record top { no_binary_name = true; disable_help_flag = true })) c.new-2.ensures.app in
    IfOk-weaker c.arg.result _ _ (λ command added. added.shape (search rules) ∙ ap₂ with_rule bare_is file_is) c.arg.ensures
