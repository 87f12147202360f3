-- What the rounded method finds of a book of rows, and ends near its bound, are due over the named equations.
use Rattle.std.specs.Prelude.{Contains}
use Rattle.span_command.proofs.Common.{◌≡◌, ℕ, List, inl, inr, value_of, Data, SetLists, Row, Var, Certified, IsBookOf, Status, IsFoundBy, are, near, refuted, slack_limit, Wanted, TellsFound, DueForFound, gaps_of}
use Rattle.exact_num.proofs.ValueLaws.{value_of-IsLowest}
use Rattle.certified_answers.specs.declared.answers.Certified.TheVariants as found
use Rattle.span_command.proofs.NearRows.{near-high-end, near-low-end}

module _ (places : ℕ) (d : Data) (rows : List Row) (vars : List Var) (book : IsBookOf places d rows vars) (sets : SetLists) (same : sets ≡ d.sets) (var : Var) (wanted : Wanted) (gap rounded : ℕ) (tried : Contains (gaps_of wanted.gap) gap) (status : Status) (text : List ℕ) where
  pub due-from_found : (solution : Certified) → IsFoundBy rows vars gap wanted.pivots solution → TellsFound sets rows vars var wanted gap rounded places solution status text → DueForFound places d rows var wanted rounded status text
  due-from_found (found.Optimal plan multipliers cost bound made) of told =
      let span = told.span in
      let worth = told.worth in
      let limit = slack_limit (value_of bound) wanted.slack in
      inl (record {
        plan = plan;
        multipliers = multipliers;
        cost = value_of cost;
        bound = value_of bound;
        low = value_of span.low;
        high = value_of span.high;
        low_plan = span.low_plan;
        high_plan = span.high_plan;
        gap = gap;
        tried = tried;
        optimum = near places d rows vars book plan multipliers (value_of cost) (value_of bound) gap of.proved.0 of.proved.1 of.proved.2 of.complete of.named;
        cost_is = rw (are places d rows vars book) at of.proved.0.cost_is;
        low_end = near-low-end places d rows vars book limit var span.low_plan worth.low_plan gap (value_of span.low) (value_of-IsLowest span.low) worth.low worth.low_close;
        high_end = near-high-end places d rows vars book limit var span.high_plan worth.high_plan gap (value_of span.high) (value_of-IsLowest span.high) worth.high worth.high_close;
        status_is = told.status_is;
        text_is = rw same at told.text_is;
      })
  due-from_found (found.Infeasible multipliers made) of told =
      inr (record {
        multipliers = multipliers;
        made = made;
        within = of.within;
        refuted = refuted places d rows vars book multipliers of.proved of.named;
        status_is = told.0;
        text_is = told.1;
      })
  due-from_found (found.Unbounded plan direction made) of told = absurd told
