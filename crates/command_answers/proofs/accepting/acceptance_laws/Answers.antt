use Rattle.command_answers.proofs.Acceptance.{ReaderLaws, not_both, one_count, one_data, one_line}
use Rattle.command_answers.proofs.AcceptedData.{accepted-complete}
use Rattle.command_answers.proofs.accepting.acceptance_laws.Goals as goal

pub returns : goal.returns
returns c =
    let laws = c.verdict_laws.ensures in
    let reader : ReaderLaws = record { one_reading = laws.one_meaning; one_fault = laws.one_fault; not_both = laws.not_both } in
    record { one_data = one_data reader; one_count = one_count reader; complete = accepted-complete; not_both = not_both reader; one_line = one_line reader }
