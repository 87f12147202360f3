-- Which files are spoken of, and what is said where there are no two plans, computed on examples and near misses.
use Rattle.std.proofs.Common.{◌≡◌, ◌∙◌, ℕ, List, [], refl, sym, ap, arith, get_or}
use Rattle.std.specs.Prelude.{codes}
use Rattle.proof_files.specs.declared.proof.Proof.TheVariants.{Optimum, Refutation, Descent}
use Rattle.command_answers.specs.declared.status.Status.TheVariants.{Done, Infeasible, Unbounded}
use Rattle.command_words.specs.declared.command.CompareShow.TheVariants.{Page}
use Rattle.plan_compare.specs.declared.scenario.Scenario.{Scenario}
use Rattle.plan_compare.specs.Comparisons.{compared_text}
use Rattle.result_pages.specs.Pages.{Part, compare_page, page_start}
use Rattle.compare_command.specs.declared.scenarios.Which.TheVariants.{First, Second}
use Rattle.compare_command.specs.Compared.{ComparesProofs, Judged, Shows, Written, files_line, not_compared_text, status_of_both}

-- the data file and the proof of the first scenario are files 1 and 2
first_files : files_line First ≡ codes "files 1 2\n"
first_files = refl

second_files : files_line Second ≡ codes "files 3 4\n"
second_files = refl

-- two proofs of which one shows no optimum
of_a_refutation : not_compared_text (codes "accepted infeasible\n") (codes "accepted\ncost 7\nbound 7\ngap 0\n")
    ≡ codes "not compared\nfiles 1 2\naccepted infeasible\nfiles 3 4\naccepted\ncost 7\nbound 7\ngap 0\n"
of_a_refutation = refl

-- the status is that of the first which shows none
first_none : status_of_both (Refutation []) (Optimum [] []) ≡ Infeasible
first_none = refl

second_none : status_of_both (Optimum [] []) (Descent [] []) ≡ Unbounded
second_none = refl

neither : status_of_both (Descent [] []) (Refutation []) ≡ Unbounded
neither = refl

-- so a comparison with a refutation doesn't end with status 0, nor does its page
not_done : (written : Written) (one two : Judged) (text : List ℕ) → ComparesProofs written (Optimum [] []) (Refutation []) one two Done text → ⊥
not_done written one two text compares = cc compares.0

-- nor with what is said of the two scenarios the other way round
turned : (written : Written) (one two : Judged) → one.said ≡ codes "accepted infeasible\n" → two.said ≡ codes "accepted unbounded\n"
    → ComparesProofs written (Refutation []) (Descent [] []) one two Infeasible (codes "not compared\nfiles 1 2\naccepted infeasible\nfiles 3 4\naccepted unbounded\n")
turned written one two is is2 = rw (is, is2) (refl, refl)

-- a page begins as HTML, and not as the text
text_as_page : (part part2 : Part) (first second : Scenario) (text : List ℕ) → text ≡ compared_text first second → Shows Page part part2 first second text → ⊥
unfolding compare_page page_start
text_as_page part part2 first second text same shows = let other : 99 ≡ 60 = ap (λ text. get_or text 0 0) (sym same ∙ shows) in omega (arith, other)
