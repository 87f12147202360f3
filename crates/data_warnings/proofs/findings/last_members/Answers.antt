-- Member by member.
use Rattle.data_warnings.proofs.Common.{ℕ, sym, ap, ◌∙◌, place_at, speaks}
use Rattle.param_tables.proofs.AscendingLaws.{range_kept, range_left}
use Rattle.data_warnings.proofs.findings.last_members.Goals as goal
use Rattle.data_warnings.proofs.findings.last_members.Goals.{then-so+in_ok-push, else-so}

pub loop-l-preserved : goal.loop-l-preserved
loop-l-preserved c =
    let test = λ (l : ℕ). speaks c.args.model.now c.args.rule (place_at c.args.i c.args.j c.args.k l) in
    record {
      end = c.loop-l.invariant.end;
      members = elim c.if-so.branch [
        | then-so+in_ok-push w ↦ ap (λ v. v.items) w.members-is ∙ w.in_ok-push.ensures.items ∙ range_kept test c.loop-l.l c.loop-l.members.items (ap (speaks c.args.model.now c.args.rule) (sym c.place.ensures) ∙ sym c.in_ok-so.ensures ∙ w.if-so.true) c.loop-l.invariant.members
        | else-so w ↦ ap (λ v. v.items) w.members-is ∙ range_left test c.loop-l.l c.loop-l.members.items (ap (speaks c.args.model.now c.args.rule) (sym c.place.ensures) ∙ sym c.in_ok-so.ensures ∙ w.if-so.false) c.loop-l.invariant.members
      ];
    }
