use Rattle.row_book.proofs.Common.{List, ◌++◌, refl, subst, inl, inr, OnOk, on_ok_weaker, Row, Var, entry_variables, held_variables, AreSameVariables}
use Rattle.row_book.proofs.HeldVariables.{gathered-beside, held-same}
use Rattle.row_book.proofs.held_rows.keep_rows.Goals as goal

pub returns-then-entries-le-HELD_ENTRIES-clause-held : goal.returns-then-entries-le-HELD_ENTRIES-clause-held
returns-then-entries-le-HELD_ENTRIES-clause-held c = inr (_, c.in_ok-push.ensures.items, refl, refl)

pub returns-then-entries-le-HELD_ENTRIES-clause-variables : goal.returns-then-entries-le-HELD_ENTRIES-clause-variables
returns-then-entries-le-HELD_ENTRIES-clause-variables c = held-same c.args.vars.now.items c.args.held.now.items c.push.new.self.items _ c.args.rows.items c.in_ok-push.ensures.items refl

pub returns-clause-held : goal.returns-clause-held
returns-clause-held c = on_ok_weaker _ (λ gathered. inl refl) c.gather_variables.ensures

pub returns-clause-variables : goal.returns-clause-variables
returns-clause-variables c =
    let old : List Var = c.args.vars.now.items in
    let new : List Var = c.gather_variables.new.vars.items in
    let more = subst (λ (rows : List Row). OnOk c.gather_variables.result (AreSameVariables new (old ++ entry_variables rows))) c.deref.ensures.value c.gather_variables.ensures in
    on_ok_weaker _ (gathered-beside old new (entry_variables c.args.rows.items) (held_variables c.args.held.now.items)) more
