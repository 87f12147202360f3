use Rattle.osemosys_run.proofs.Common.{◌∙◌, List, inl, inr, refl, sym, ap, ⊤, Var, rows_text, TellsFail, Done, sent, DueForEquations, IsTold}
use Rattle.row_core.specs.Contents.{RowContents}
use Rattle.row_book.specs.Feeds.{AreContentsOf}
use Rattle.command_answers.proofs.BookEnds.{refused_told}
use Rattle.osemosys_run.proofs.RunLaws.{delivers-weaker}
use Rattle.osemosys_run.proofs.equations.write_equations.Goals as goal

pub returns-in-Ok-clause-delivers : goal.returns-in-Ok-clause-delivers
returns-in-Ok-clause-delivers g c =
    let d = c.args.model.now.facts in
    let places = c.args.places in
    let vars : List Var = c.in-Ok.vars.items in
    let contents : List RowContents = c.in-Ok.feed.rows in
    let said : AreContentsOf places d contents vars = c.in-Ok.ensures.rows in
    delivers-weaker ⊤ ⊤ (IsTold Done (rows_text d.sets contents c.deref.result.now)) (DueForEquations places d)
    c.write_rows.result (sent g.K.Sink c.args.out.now) (sent g.K.Sink c.write_rows.new.out)
    (λ made. made)
    (λ status text told. inl (record {
      made = c.in-Ok.ensures.made;
      status_is = told.0;
      writes = record {
        rows = said.rows;
        columns = vars;
        are_rows = said.are_rows;
        are_columns = said.are_variables;
        is = told.1 ∙ ap (λ (vs : List Var). rows_text d.sets contents vs) c.deref.ensures.value ∙ ap (λ (all : List RowContents). rows_text d.sets all vars) (sym said.say);
      };
    }))
    c.write_rows.ensures.delivers

pub returns-in-Err-clause-delivers : goal.returns-in-Err-clause-delivers
returns-in-Err-clause-delivers g c =
    let d = c.args.model.now.facts in
    let places = c.args.places in
    delivers-weaker ⊥ ⊤ (TellsFail d.sets c.in-Err.fail) (DueForEquations places d)
    c.write_refusal.result (sent g.K.Sink c.args.out.now) (sent g.K.Sink c.write_refusal.new.out)
    (λ never. tt)
    (λ status text told. inr (refused_told places d d.sets c.in-Err.fail status text c.in-Err.ensures.stopped refl told))
    c.write_refusal.ensures.delivers
