use Rattle.std.proofs.Common.{◌≡◌, ℕ, List, subst}
use Rattle.std.proofs.lemmas.Result.{IfOk-weaker}
use Rattle.proof_files.specs.declared.proof.Proof.{Proof}
use Rattle.compare_command.specs.declared.standing.Standing.TheVariants.{Planned, Planless}
use Rattle.result_pages.specs.Pages.{Part, part_of, title_of}
use Rattle.compare_command.specs.Compared.{Shows, not_compared_text}
use Rattle.compare_command.specs.Standings.{StandsAs}
use Rattle.compare_command.proofs.ComparedLaws.{parted, planned, second_planless}
use Rattle.compare_command.proofs.comparing.answer_compare.Goals as goal

pub returns-in-Planned-standing_of : goal.returns-in-Planned-standing_of
returns-in-Planned-standing_of c = λ places one two is are is2 are2.
    let first = c.in-Planned.one in
    let second = c.in-Planned-standing_of.two in
    let part2 : Part = record { title = title_of c.args.second.title; said = c.args.second.accepted.now.said.items; tables = c.args.second.tables.now } in
    let stands = subst (StandsAs one.data_of one.rows c.args.first.accepted.now.proof) c.in-Planned.is (c.standing_of.ensures one.data_of one.rows is.sets_are is.worth) in
    let stands2 = subst (StandsAs two.data_of two.rows c.args.second.accepted.now.proof) c.in-Planned-standing_of.is (c.standing_of-in-Planned.ensures two.data_of two.rows is2.sets_are is2.worth) in
    IfOk-weaker c.compare.result _ _
    (λ answer told.
    planned (record { show = c.args.show; places = places; title = title_of c.args.first.title; title2 = title_of c.args.second.title }) one two answer.status answer.text.items one.proof two.proof first second
    (subst (λ (p : Proof). StandsAs one.data_of one.rows p (Planned first)) is.proof_is stands) (subst (λ (p : Proof). StandsAs two.data_of two.rows p (Planned second)) is2.proof_is stands2)
    told.0
    (parted c.args.show places one two (title_of c.args.first.title) (title_of c.args.second.title) c.args.first.accepted.now.said.items c.args.second.accepted.now.said.items c.args.first.tables.now c.args.second.tables.now first second answer.text.items
    is.said_is is2.said_is are are2
    (subst (λ (p : Part). Shows c.args.show p part2 first second answer.text.items) c.part_of.ensures
    (subst (λ (p : Part). Shows c.args.show (part_of c.part_of.result) p first second answer.text.items) c.part_of-in-Planned-standing_of.ensures told.1))))
    c.compare.ensures

pub returns-in-Planless-standing_of : goal.returns-in-Planless-standing_of
returns-in-Planless-standing_of c = λ places one two is are is2 are2.
    let first = c.in-Planned.one in
    let why = c.in-Planless-standing_of.status in
    let said = c.args.first.accepted.now.said.items in
    let stands = subst (StandsAs one.data_of one.rows c.args.first.accepted.now.proof) c.in-Planned.is (c.standing_of.ensures one.data_of one.rows is.sets_are is.worth) in
    let stands2 = subst (StandsAs two.data_of two.rows c.args.second.accepted.now.proof) c.in-Planless-standing_of.is (c.standing_of-in-Planned.ensures two.data_of two.rows is2.sets_are is2.worth) in
    IfOk-weaker c.tell_both.result _ _
    (λ answer told.
    second_planless (record { show = c.args.show; places = places; title = title_of c.args.first.title; title2 = title_of c.args.second.title }) one two answer.status answer.text.items one.proof two.proof first why
    (subst (λ (p : Proof). StandsAs one.data_of one.rows p (Planned first)) is.proof_is stands) (subst (λ (p : Proof). StandsAs two.data_of two.rows p (Planless why)) is2.proof_is stands2)
    told.0
    (subst (λ (s : List ℕ). answer.text.items ≡ not_compared_text s two.said) is.said_is (subst (λ (s : List ℕ). answer.text.items ≡ not_compared_text said s) is2.said_is told.1)))
    c.tell_both.ensures
