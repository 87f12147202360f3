-- Neither 0 nor a number above the last kind is one.
use Rattle.std.proofs.Common.{◌≡◌, sym, ◌∙◌}
use Rattle.certificate_checker.proofs.KindLaws.{none_above, none_at_zero, above-from_test}
use Rattle.certificate_checker.proofs.numbers.may_be_negative.Goals as goal
use Rattle.certificate_checker.proofs.numbers.may_be_negative.Goals.{then-kind-ge1, else-kind-ge1}

pub returns-else-kind-le-KIND_COUNT : goal.returns-else-kind-le-KIND_COUNT
returns-else-kind-le-KIND_COUNT c =
    elim c.if-kind-ge1.branch [
      | then-kind-ge1 w ↦ c.if-kind-le-KIND_COUNT.false ∙ sym (none_above c.args.kind (above-from_test c.args.kind (sym w.value-is ∙ c.if-kind-le-KIND_COUNT.false)))
      | else-kind-ge1 w ↦ c.if-kind-le-KIND_COUNT.false ∙ sym (none_at_zero c.args.kind w.if-kind-ge1.false)
    ]
