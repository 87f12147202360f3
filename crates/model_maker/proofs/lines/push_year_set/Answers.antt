use Rattle.std.proofs.Common.{◌∙◌, ◌++◌, List, ℕ, ap, sym, codes, append_assoc}
use Rattle.std.specs.List.{flat_map}
use Rattle.model_maker.specs.MadeText.{year_member, years_from_first}
use Rattle.model_maker.proofs.lines.push_year_set.Goals as goal

pub returns : goal.returns
returns c =
    let old = c.args.out.now.items in
    let years : List ℕ = flat_map year_member (years_from_first c.args.years) in
    let begun = c.in_ok-extend_from_slice.ensures.items in
    let named = c.in_ok-push_years.ensures ∙ ap (λ text. text ++ years) begun in
    let ended = c.in_ok-extend_from_slice-2.ensures.items ∙ ap (λ text. text ++ codes " ;\n") named in
    ended
    ∙ append_assoc (old ++ codes "set YEAR :=") years (codes " ;\n")
    ∙ append_assoc old (codes "set YEAR :=") (years ++ codes " ;\n")
    ∙ ap (λ text. old ++ (codes "set YEAR :=" ++ text)) (sym (append_assoc years (codes " ;") (codes "\n")))
