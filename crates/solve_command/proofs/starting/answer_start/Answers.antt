-- What the file tells over the variables of the book is what it tells over those that exist, and what is due of it is that.
use Rattle.solve_command.proofs.Common.{◌≡◌, ◌∙◌, IfOk, subst, length, IfOk-weaker, all_variables, Refused, start_fault_line, NoStart, Start, Breaks}
use Rattle.command_answers.specs.declared.status.Refusal.TheVariants.{StartFile}
use Rattle.command_answers.proofs.PlanCosts.{all-of}
use Rattle.solver_answers.specs.Answers.{IsAnswerTo, IsFailOfText, Tells}
use Rattle.solve_command.proofs.StartLaws.{gives-due, lacks-due}
use Rattle.solve_command.proofs.starting.answer_start.Goals as goal

pub returns-in-Ok-NoStart : goal.returns-in-Ok-NoStart
returns-in-Ok-NoStart g c = λ d same book.
    let read = c.in-Ok-NoStart.field-0 in
    let bytes = c.args.bytes.now in
    let rows = c.args.book.now.rows in
    let vars : c.vars.result.now ≡ all_variables d = c.vars.ensures.variables ∙ all-of d c.args.book.now.vars book.ascending book.exist book.whole in
    let told : IsAnswerTo d.sets (all_variables d) (length rows) bytes NoStart =
    subst (IsAnswerTo d.sets (all_variables d) (length rows) bytes) c.in-Ok-NoStart.field-0-is
    (subst (λ sets. IsAnswerTo sets (all_variables d) (length rows) bytes read) same
    (subst (λ vs. IsAnswerTo c.args.sets.now vs (length rows) bytes read) vars
    (subst (λ rs. IsAnswerTo c.args.sets.now c.vars.result.now (length rs) bytes read) c.rows.ensures.rows c.in-Ok-NoStart.ensures.answer))) in
    IfOk-weaker c.answer_book.result _ _
    (λ answer due. (told.0, told.1, lacks-due c.args.places d rows c.args.wanted c.args.rounded answer.status answer.text.items (length (all_variables d)) told.0 told.2 due))
    (c.answer_book.ensures d same book)

pub returns-in-Ok-Start : goal.returns-in-Ok-Start
returns-in-Ok-Start g c = λ d same book.
    let read = c.in-Ok-Start.field-0 in
    let found = c.in-Ok-Start.found in
    let bytes = c.args.bytes.now in
    let rows = c.args.book.now.rows in
    let vars : c.vars.result.now ≡ all_variables d = c.vars.ensures.variables ∙ all-of d c.args.book.now.vars book.ascending book.exist book.whole in
    let told : IsAnswerTo d.sets (all_variables d) (length rows) bytes (Start found) =
    subst (IsAnswerTo d.sets (all_variables d) (length rows) bytes) c.in-Ok-Start.field-0-is
    (subst (λ sets. IsAnswerTo sets (all_variables d) (length rows) bytes read) same
    (subst (λ vs. IsAnswerTo c.args.sets.now vs (length rows) bytes read) vars
    (subst (λ rs. IsAnswerTo c.args.sets.now c.vars.result.now (length rs) bytes read) c.rows.ensures.rows c.in-Ok-Start.ensures.answer))) in
    IfOk-weaker c.answer_book-in-Ok-Start.result _ _
    (λ answer due. (told.0, told.1, gives-due c.args.places d rows c.args.wanted c.args.rounded answer.status answer.text.items (length (all_variables d)) told.0 found told.2 due))
    (c.answer_book-in-Ok-Start.ensures d same book)

pub returns-in-Err-Fault : goal.returns-in-Err-Fault
returns-in-Err-Fault g c = λ d same book.
    let fail = c.in-Err-Fault.field-0 in
    let line = c.in-Err-Fault.line in
    let bytes = c.args.bytes.now in
    let rows = c.args.book.now.rows in
    let vars : c.vars.result.now ≡ all_variables d = c.vars.ensures.variables ∙ all-of d c.args.book.now.vars book.ascending book.exist book.whole in
    let tells : Tells d.sets (all_variables d) (length rows) bytes (Breaks line) =
    subst (IsFailOfText d.sets (all_variables d) (length rows) bytes) c.in-Err-Fault.field-0-is
    (subst (λ sets. IsFailOfText sets (all_variables d) (length rows) bytes fail) same
    (subst (λ vs. IsFailOfText c.args.sets.now vs (length rows) bytes fail) vars
    (subst (λ rs. IsFailOfText c.args.sets.now c.vars.result.now (length rs) bytes fail) c.rows.ensures.rows c.in-Err-Fault.ensures.fault))) in
    let refused : IfOk c.refuse_start.result (λ answer. (answer.status ≡ Refused (StartFile line)) × (answer.text.items ≡ start_fault_line line)) =
    subst (λ n. IfOk c.refuse_start.result (λ answer. (answer.status ≡ Refused (StartFile n)) × (answer.text.items ≡ start_fault_line n))) c.in-Err-Fault.line-is c.refuse_start.ensures in
    IfOk-weaker c.refuse_start.result _ _ (λ answer told. (Breaks line, tells, told)) refused
