-- Each subscript of the columns is one that the kind has.
use Rattle.plan_tables.proofs.Common.{ℕ, List, sym, subst, AllByRecursion, kind_at, IsWithin}
use Rattle.plan_tables.proofs.ColumnLaws.{columns_within}
use Rattle.plan_tables.proofs.values.push_value.Goals as goal

pub push_members-requires-clause-within : goal.push_members-requires-clause-within
push_members-requires-clause-within c =
    let within = subst (λ (kind : ℕ). AllByRecursion (IsWithin c.args.sets.now c.args.var.index) (kind_at kind).subscripts) c.if-var-shown.false c.requires.within in
    subst (λ (places : List ℕ). AllByRecursion (IsWithin c.args.sets.now c.args.var.index) places) (sym c.requires.places) (columns_within c.args.sets.now c.args.var.index c.args.shown.kind within)
