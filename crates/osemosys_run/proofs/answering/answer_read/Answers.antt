-- `warn` looks at what the text says, and the others at the data alone.
use Rattle.osemosys_run.proofs.Common.{◌∷◌, List, ℕ, map, ap, sym, subst, IfOk, IfOk-weaker, DueForText, DueOverData, Question, question_of, source_of}
use Rattle.osemosys_run.proofs.RequestLaws.{over_data}
use Rattle.osemosys_run.proofs.answering.answer_read.Goals as goal

pub answer_data-requires : goal.answer_data-requires
answer_data-requires g c = record { in_range = c.requires.in_range; over_data = over_data c.args.command c.in_default.not-Warn c.requires.one; stands = c.requires.stands }

pub returns-in-Warn : goal.returns-in-Warn
returns-in-Warn g c = λ text stands short.
    let source = source_of text c.args.changes in
    IfOk-weaker c.answer_warned.result _ _
    (λ answer due.
    subst (λ (question : Question). DueForText (DueOverData question source.changes (text ∷ map (λ bytes. bytes.items) c.args.others.now)) source answer.status answer.text.items) (sym (ap question_of c.in-Warn.is)) due)
    (c.answer_warned.ensures text stands short)
