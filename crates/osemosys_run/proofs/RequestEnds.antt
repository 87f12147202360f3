-- A request that must come to an end does: what is due for it is that.
use Rattle.osemosys_run.proofs.Common.{◌≡◌, ℕ, List, Result, Ok, subst, option_map, Status, WordFault, Question, Request, Source, plain, Check, CheckProof, Compare, Curve, Explain, Make, Mps, Page, Reduce, Solve, SolveFrom, Span, Table, Warn, asked, names_of, AreThere, CanBeDone, IsEndOf, Due, DueForQuestion, DueForRequest, DueOver, bytes_at, source2_in, source_in, titled}
use Rattle.command_words.specs.declared.command.MakeShow.TheVariants.{File, Summary}
use Rattle.model_maker.specs.MadeText.{made_text}
use Rattle.osemosys_run.proofs.Completeness.{Laws, accepted, written}
use Rattle.osemosys_run.proofs.CompareCompleteness.{compared}
use Rattle.osemosys_run.proofs.CurveCompleteness.{drawn}
use Rattle.osemosys_run.proofs.ExplainCompleteness.{explained}
use Rattle.osemosys_run.proofs.FilesDue.{over_there}
use Rattle.osemosys_run.proofs.ShownCompleteness.{paged, tabled}
use Rattle.osemosys_run.proofs.SolveCompleteness.{ended, ended_from_start, summary_ended}
use Rattle.osemosys_run.proofs.SpanCompleteness.{spanned}

completes : Laws → (question : Question) (source source2 : Source) (contents : List (List ℕ)) (status : Status) (text : List ℕ) → CanBeDone question source source2 contents → DueForQuestion question source source2 contents status text → IsEndOf question status
completes laws (Mps name places) source source2 contents status text can due = written laws places source status text can due
completes laws (Check name plan multipliers gap places) source source2 contents status text can due =
    accepted laws gap places source (bytes_at contents 1) (option_map (λ name. bytes_at contents 2) multipliers) status text can due
completes laws (CheckProof name proof gap places) source source2 contents status text can due = absurd can
completes laws (Solve name gap pivots places show method) source source2 contents status text can due = ended laws gap pivots places show source status text can method due
completes laws (SolveFrom name start gap pivots places show) source source2 contents status text can due =
    ended_from_start laws gap pivots places show source status text can.solved (bytes_at contents 1) can.in_form due
completes laws (Explain name pivots places method) source source2 contents status text can due = explained laws pivots places method source status text can due
completes laws (Curve name region emission limits gap pivots places method) source source2 contents status text can due = drawn laws region emission limits gap pivots places method source status text can due
completes laws (Span name region technology year slack gap pivots places method) source source2 contents status text can due =
    spanned laws region technology year slack gap pivots places method source status text can due
completes laws (Make size File) source source2 contents status text can due = absurd can
completes laws (Make size Summary) source source2 contents status text can due = summary_ended laws (plain (made_text size)) status due.0 can due.1
completes laws (Table name proof table exact gap places) source source2 contents status text can due =
    tabled laws gap places source (bytes_at contents 1) can.0 status text table exact can.1 can.2 due
completes laws (Page name proof gap places) source source2 contents status text can due = paged laws gap places source (bytes_at contents 1) can status text (titled name source.changes) due
completes laws (Warn name) source source2 contents status text can due = absurd can
completes laws (Compare first first_proof second second_proof gap places show) source source2 contents status text can due =
    compared laws gap (record { show = show; places = places; title = titled first source.changes; title2 = titled second source2.changes }) source (bytes_at contents 1) source2 (bytes_at contents 3) can.0 can.1 status text due
completes laws (Reduce name places) source source2 contents status text can due = absurd can

pub completes_words : Laws → (words : List (List ℕ)) (files : List (List ℕ × List ℕ)) (status : Status) (text : List ℕ) → Due words files status text
    → (request : Request) (contents : List (List ℕ)) → asked words ≡ Ok request → AreThere files (names_of request) contents → CanBeDone request.question (source_in request contents) (source2_in request contents) contents → IsEndOf request.question status
completes_words laws words files status text due request contents asks there can =
    completes laws request.question (source_in request contents) (source2_in request contents) contents status text can
    (over_there (DueOver request) 1 (names_of request) contents files status text there (subst (λ (r : Result Request WordFault). DueForRequest r files status text) asks due))
