-- One list of tables after another.
use Rattle.std.proofs.Common.{◌≡◌, ℕ, List, ◌++◌, ap, ◌∙◌}
use Rattle.model_sets.specs.Data.{Data}
use Rattle.page_tables.specs.PageTables.{data_texts, kinds_text, plan_tables, price_texts}
use Rattle.page_tables.specs.declared.lists.TheConstants.{PAGE_DATA, PAGE_KINDS, PAGE_PRICES}
use Rattle.page_tables.proofs.texts.plan_tables.Goals as goal

pub returns : goal.returns
unfolding plan_tables
returns c =
    let d : Data = c.args.source.model.now.facts in
    let form = c.args.source.form in
    let told : List ℕ = data_texts form c.args.source.places d PAGE_DATA in
    let kinds : List ℕ = kinds_text form d.sets c.args.plan.now PAGE_KINDS in
    let prices : List ℕ = price_texts form d.sets c.args.source.rows.now c.args.multipliers.now PAGE_PRICES in
    let first : c.push_all_data.new.out.items ≡ told = c.in_ok-push_all_data.ensures ∙ ap (λ t. t ++ told) c.new-out.ensures.items in
    let second : c.push_kinds.new.out.items ≡ told ++ kinds =
    c.in_ok-push_kinds.ensures ∙ ap (λ s. c.push_all_data.new.out.items ++ kinds_text form s c.args.plan.now PAGE_KINDS) c.sets.ensures.sets ∙ ap (λ t. t ++ kinds) first in
    c.in_ok-push_all_prices.ensures ∙ ap (λ t. t ++ prices) second
