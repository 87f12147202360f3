use Rattle.solve_command.proofs.summary.counts_text.Goals as goal

pub returns : goal.returns
returns c =
    let equations = rw (c.new-text.ensures.items, c.rows-2.ensures.rows) at c.in_ok-push_count.ensures in
    let variables = rw (equations, c.vars-2.ensures.variables) at c.in_ok-push_count-2.ensures in
    let inequalities = rw (variables, c.size_of-size.ensures.rows, c.rows.ensures.rows) at c.in_ok-push_count-3.ensures in
    rw (inequalities, c.size_of-size.ensures.columns, c.vars.ensures.variables) at c.in_ok-push_count-4.ensures
