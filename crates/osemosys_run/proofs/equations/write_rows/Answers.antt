use Rattle.osemosys_run.proofs.Common.{refl, sym, subst, rules, inl, inr, AllByRecursion, Took, TookPrefix, SetLists, IsNamedRow, IsNamedVariable, rows_text, Done, sent}
use Rattle.osemosys_run.proofs.equations.write_rows.Goals as goal

pub mps_to-requires-clause-rows : goal.mps_to-requires-clause-rows
mps_to-requires-clause-rows g c =
    subst (λ (sets : SetLists). AllByRecursion (IsNamedRow sets) c.args.feed.now.rows) (sym c.sets.ensures.sets) c.requires.named

pub mps_to-requires-clause-vars : goal.mps_to-requires-clause-vars
mps_to-requires-clause-vars g c =
    subst (λ (sets : SetLists). AllByRecursion (IsNamedVariable sets) c.args.vars.now) (sym c.sets.ensures.sets) c.requires.within

pub returns-in-Ok-clause-delivers : goal.returns-in-Ok-clause-delivers
returns-in-Ok-clause-delivers g c =
    let contents = c.args.feed.now.rows in
    let vars = c.args.vars.now in
    inl (record {
      text = rows_text c.args.model.now.facts.sets contents vars;
      due = (refl, refl);
      told = tt;
      took = subst (λ (sets : SetLists). Took (sent g.K.Sink c.args.out.now).output (sent g.K.Sink c.mps_to.new.out).output (rows_text sets contents vars)) c.sets.ensures.sets c.in-Ok.ensures.sent;
    })

pub returns-in-Err-Write-clause-delivers : goal.returns-in-Err-Write-clause-delivers
returns-in-Err-Write-clause-delivers g c =
    let contents = c.args.feed.now.rows in
    let vars = c.args.vars.now in
    inr (inl (record {
      status_is = refl;
      rose = search rules;
      said = Done;
      text = rows_text c.args.model.now.facts.sets contents vars;
      due = (refl, refl);
      took = subst (λ (sets : SetLists). TookPrefix (sent g.K.Sink c.args.out.now).output (sent g.K.Sink c.mps_to.new.out).output (rows_text sets contents vars)) c.sets.ensures.sets c.in-Err-Write.ensures.cut;
    }))

pub returns-in-Err-Memory-clause-delivers : goal.returns-in-Err-Memory-clause-delivers
returns-in-Err-Memory-clause-delivers g c =
    let contents = c.args.feed.now.rows in
    let vars = c.args.vars.now in
    inr (inr (record {
      status_is = refl;
      left = inr (
        tt,
        record {
          text = rows_text c.args.model.now.facts.sets contents vars;
          due = (refl, refl);
          took = subst (λ (sets : SetLists). TookPrefix (sent g.K.Sink c.args.out.now).output (sent g.K.Sink c.mps_to.new.out).output (rows_text sets contents vars)) c.sets.ensures.sets c.in-Err-Memory.ensures.cut;
        },
      );
    }))
