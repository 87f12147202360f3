-- What is answered of two scenarios, by what the proof of each has to be compared.
use Rattle.std.proofs.Common.{◌≡◌, ◌∙◌, ℕ, List, ap}
use Rattle.proof_files.specs.declared.proof.Proof.{Proof}
use Rattle.proof_files.specs.declared.proof.Proof.TheVariants.{Optimum, Refutation, Descent}
use Rattle.command_answers.specs.declared.status.Status.{Status}
use Rattle.command_answers.specs.declared.status.Status.TheVariants.{Done}
use Rattle.command_words.specs.declared.command.CompareShow.{CompareShow}
use Rattle.command_words.specs.declared.command.CompareShow.TheVariants.{Page, Text}
use Rattle.plan_compare.specs.declared.scenario.Scenario.{Scenario}
use Rattle.plan_compare.specs.Comparisons.{head_of}
use Rattle.result_pages.specs.Pages.{Part, Title, compare_page}
use Rattle.compare_command.specs.declared.standing.Standing.TheVariants.{Planned, Planless}
use Rattle.compare_command.specs.Compared.{AreTablesFor, ComparesProofs, Judged, Shows, Written, not_compared_text, part_of}
use Rattle.compare_command.specs.Standings.{StandsAs}

-- what a page shows
abbrev part : Title → List ℕ → List ℕ → Part
part title said tables = record { title = title; said = said; tables = tables }

-- what is shown of two parts is shown of the scenarios whose parts they are
pub parted : (show : CompareShow) (places : ℕ) (one two : Judged) (title title2 : Title) (said said2 tables tables2 : List ℕ) (first second : Scenario) (text : List ℕ)
    → said ≡ one.said → said2 ≡ two.said → AreTablesFor show places one.data_of one.rows one.proof tables → AreTablesFor show places two.data_of two.rows two.proof tables2
    → Shows show (record { title = title; said = said; tables = tables }) (record { title = title2; said = said2; tables = tables2 }) first second text
    → Shows show (part_of places title one) (part_of places title2 two) first second text
parted Text places one two title title2 said said2 tables tables2 first second text same same2 are are2 shows = shows
parted Page places one two title title2 said said2 tables tables2 first second text same same2 are are2 shows =
    let of_one : part title said tables ≡ part_of places title one = ap (λ s. part title s tables) same ∙ ap (λ t. part title one.said t) are in
    let of_two : part title2 said2 tables2 ≡ part_of places title2 two = ap (λ s. part title2 s tables2) same2 ∙ ap (λ t. part title2 two.said t) are2 in
    shows ∙ ap (λ p. compare_page p (part title2 said2 tables2) (head_of first second)) of_one ∙ ap (λ p. compare_page (part_of places title one) p (head_of first second)) of_two

module _ (written : Written) (one two : Judged) (status : Status) (text : List ℕ) where
  -- both have a plan
  pub planned : (proof proof2 : Proof) (first second : Scenario) → StandsAs one.data_of one.rows proof (Planned first) → StandsAs two.data_of two.rows proof2 (Planned second)
      → status ≡ Done → Shows written.show (part_of written.places written.title one) (part_of written.places written.title2 two) first second text → ComparesProofs written proof proof2 one two status text
  planned (Optimum plan multipliers) (Optimum plan2 multipliers2) first second is is2 done same =
      record { first = first; second = second; is_first = is; is_second = is2; status_is = done; shows = same }
  planned (Optimum plan multipliers) (Refutation multipliers2) first second is is2 done same = absurd is2
  planned (Optimum plan multipliers) (Descent plan2 direction2) first second is is2 done same = absurd is2
  planned (Refutation multipliers) proof2 first second is is2 done same = absurd is
  planned (Descent plan direction) proof2 first second is is2 done same = absurd is

  -- the first has one, and the second has none
  pub second_planless : (proof proof2 : Proof) (first : Scenario) (why : Status) → StandsAs one.data_of one.rows proof (Planned first) → StandsAs two.data_of two.rows proof2 (Planless why)
      → status ≡ why → text ≡ not_compared_text one.said two.said → ComparesProofs written proof proof2 one two status text
  second_planless (Optimum plan multipliers) (Optimum plan2 multipliers2) first why is is2 so same = absurd is2
  second_planless (Optimum plan multipliers) (Refutation multipliers2) first why is is2 so same = (so ∙ is2, same)
  second_planless (Optimum plan multipliers) (Descent plan2 direction2) first why is is2 so same = (so ∙ is2, same)
  second_planless (Refutation multipliers) proof2 first why is is2 so same = absurd is
  second_planless (Descent plan direction) proof2 first why is is2 so same = absurd is
