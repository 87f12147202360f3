use Rattle.std.proofs.Common.{List, ap, sym, subst, ◌∙◌}
use Rattle.std.specs.List.{AllByRecursion}
use Rattle.row_core.specs.declared.Var.{Var}
use Rattle.row_core.specs.Numbers.{ascends}
use Rattle.row_core.specs.Order.{var_cmp}
use Rattle.row_book.specs.Books.{IsWithinSets}
use Rattle.feed_tests.proofs.sections.text_of.Goals as goal

pub write_counted-requires-clause-within : goal.write_counted-requires-clause-within
write_counted-requires-clause-within c =
    subst (λ (vs : List Var). AllByRecursion (IsWithinSets c.args.model.now.facts.sets) vs) (sym c.deref.ensures.value) c.in-Ok.ensures.within

pub write_counted-requires-clause-ascending : goal.write_counted-requires-clause-ascending
write_counted-requires-clause-ascending c =
    ap (ascends var_cmp) c.deref.ensures.value ∙ c.in-Ok.ensures.rows.are_variables.ascending
