-- Which status and which text are due, in the order of work: the words, the files, the text of the data file, and what the command says over accepted data.
use Rattle.std.specs.Prelude.{◌≡◌, ℕ, ◌+◌, List, [], ◌∷◌, ◌++◌, get_or, length, MatchBool, nat_lt, Option, Some, None, Result, Ok, Err}
use Rattle.std.specs.Option.{option_map, option_to_list}
use Rattle.io_edges.specs.Files.{file_named}
use Rattle.model_sets.specs.Data.{Data}
use Rattle.command_answers.specs.declared.status.Status.{Status}
use Rattle.command_answers.specs.declared.status.Status.TheVariants.{Done, Refused, Words, ReadFault}
use Rattle.command_answers.specs.declared.status.Refusal.TheVariants.{TooLong}
use Rattle.command_answers.specs.declared.status.ReadStop.TheVariants.{NoFile}
use Rattle.command_words.specs.declared.command.MakeShow.{MakeShow}
use Rattle.command_words.specs.declared.command.MakeShow.TheVariants.{File, Summary}
use Rattle.command_words.specs.declared.command.SolveMethod.TheVariants.{Rounded}
use Rattle.command_words.specs.declared.fault.WordFault.{WordFault}
use Rattle.model_maker.specs.MadeText.{made_text}
use Rattle.command_answers.specs.Accepted.{Source, most_bytes, plain}
use Rattle.check_command.specs.Check.{DueForCheck}
use Rattle.check_command.specs.CheckProof.{DueForProof, DueForProofFile}
use Rattle.command_answers.specs.DueForText.{DueForText}
use Rattle.command_answers.specs.Lines.{stop_line, too_long_line, words_line}
use Rattle.curve_command.specs.Curve.{DueForCurve}
use Rattle.explain_command.specs.Explain.{DueForExplain}
use Rattle.osemosys_run.specs.Compared.{DueForCompared}
use Rattle.osemosys_run.specs.Mps.{DueForEquations}
use Rattle.osemosys_run.specs.Warned.{IsWarned}
use Rattle.page_command.specs.Pages.{DueForPage}
use Rattle.reduce_command.specs.Reduced.{DueForReduced}
use Rattle.result_pages.specs.FileNames.{last_segment}
use Rattle.result_pages.specs.Pages.{Title}
use Rattle.solve_command.specs.Shown.{wanted_by}
use Rattle.solve_command.specs.Solve.{DueForSolve}
use Rattle.solve_command.specs.Starts.{DueForSolveFrom}
use Rattle.span_command.specs.Span.{DueForSpan}
use Rattle.table_command.specs.Tables.{DueForTable, form_of}
use Rattle.solve_command.specs.Summary.{DueForSummary, default_places, made_line}
use Rattle.command_words.specs.Words.{Question, Request, Check, CheckProof, Compare, Curve, Explain, Make, Mps, Page, Reduce, Solve, SolveFrom, Span, Table, Warn, asked, names_in, names_of}

-- ---- over what the files hold

-- the bytes in this place
abbrev pub bytes_at : List (List ℕ) → ℕ → List ℕ
bytes_at contents place = get_or contents place []

-- what names data on a page
abbrev pub titled : List ℕ → Option (List ℕ) → Title
titled path changes = record { name = last_segment path; changes = changes }

-- Over accepted data of which so many numbers are rounded, for a question of one data file, which these changes have changed, over the contents of its files: after the data file come a plan's
-- and those of multipliers, or those of a proof, or of values to start from. `make` has no data file, and `compare` two.
abbrev pub DueOverData : Question → (changes : Option (List ℕ)) → (contents : List (List ℕ)) → ℕ → Data → Status → List ℕ → Type 0
DueOverData (Mps name places) changes contents rounded d status text = DueForEquations places d status text
DueOverData (Check name plan multipliers gap places) changes contents rounded d status text =
    DueForCheck places (bytes_at contents 1) (option_map (λ name. bytes_at contents 2) multipliers) gap d status text
DueOverData (CheckProof name proof gap places) changes contents rounded d status text = DueForProof places (bytes_at contents 1) gap d status text
DueOverData (Solve name gap pivots places show method) changes contents rounded d status text = DueForSolve places (wanted_by gap pivots show method) rounded d status text
DueOverData (SolveFrom name start gap pivots places show) changes contents rounded d status text = DueForSolveFrom places (wanted_by gap pivots show Rounded) (bytes_at contents 1) rounded d status text
DueOverData (Explain name pivots places method) changes contents rounded d status text = DueForExplain places (record { pivots = pivots; method = method }) d status text
DueOverData (Curve name region emission limits gap pivots places method) changes contents rounded d status text =
    DueForCurve places (record { method = method; pivots = pivots; gap = gap }) (record { region = region; emission = emission }) limits d status text
DueOverData (Span name region technology year slack gap pivots places method) changes contents rounded d status text =
    DueForSpan places (record { method = method; slack = slack; gap = gap; pivots = pivots }) (record { region = region; technology = technology; year = year }) rounded d status text
DueOverData (Table name proof table exact gap places) changes contents rounded d status text =
    DueForTable places (λ rows. DueForProofFile places d rows (bytes_at contents 1) gap) (bytes_at contents 1) table (form_of exact) d status text
DueOverData (Page name proof gap places) changes contents rounded d status text =
    DueForPage (titled name changes) rounded places (λ rows. DueForProofFile places d rows (bytes_at contents 1) gap) (bytes_at contents 1) d status text
DueOverData (Reduce name places) changes contents rounded d status text = DueForReduced places d status text
DueOverData (Warn name) changes contents rounded d status text = IsWarned (bytes_at contents 0) rounded d status text
DueOverData (Make size show) changes contents rounded d status text = ⊥
DueOverData (Compare first first_proof second second_proof gap places show) changes contents rounded d status text = ⊥

-- for a number of which a model is made, and what is to be shown: its data file, or that number and then what is due over the text of the file
abbrev pub DueForMake : ℕ → MakeShow → Status → List ℕ → Type 0
DueForMake size File status text = (status ≡ Done) × (text ≡ made_text size)
DueForMake size Summary status text = (rest : List ℕ) × DueForText (DueForSummary default_places) (plain (made_text size)) status rest × (text ≡ made_line size ++ rest)

-- the bytes of the file of changes in this place, where one is named
abbrev pub changes_at : List (List ℕ) → ℕ → Option (List ℕ) → Option (List ℕ)
changes_at contents place name = option_map (λ name. bytes_at contents place) name

-- the data file of a request with its changes: files of changes come after those of the question
abbrev pub source_in : Request → (contents : List (List ℕ)) → Source
source_in request contents = record { text = bytes_at contents 0; changes = changes_at contents (length (names_in request.question)) request.changes }

-- and the second one of `compare`
abbrev pub source2_in : Request → (contents : List (List ℕ)) → Source
source2_in request contents =
    record { text = bytes_at contents 2; changes = changes_at contents (length (names_in request.question ++ option_to_list request.changes)) request.changes2 }

-- For a question over data files with their changes, and over the contents of its files, in the order in which it names them: the data file comes first, and for `compare` the data file
-- and the proof of each scenario.
abbrev pub DueForQuestion : Question → Source → Source → (contents : List (List ℕ)) → Status → List ℕ → Type 0
DueForQuestion (Make size show) source source2 contents status text = DueForMake size show status text
DueForQuestion (Compare first first_proof second second_proof gap places show) source source2 contents status text =
    DueForCompared (record { show = show; places = places; title = titled first source.changes; title2 = titled second source2.changes }) gap
    source (bytes_at contents 1) source2 (bytes_at contents 3) status text
DueForQuestion question source source2 contents status text = DueForText (DueOverData question source.changes contents) source status text

abbrev pub DueOver : Request → (contents : List (List ℕ)) → Status → List ℕ → Type 0
DueOver request contents status text = DueForQuestion request.question (source_in request contents) (source2_in request contents) contents status text

-- and for words that may be at fault
abbrev pub DueOverAsked : Result Request WordFault → (contents : List (List ℕ)) → Status → List ℕ → Type 0
DueOverAsked (Err fault) contents status text = (status ≡ Words fault) × (text ≡ words_line fault)
DueOverAsked (Ok request) contents status text = DueOver request contents status text

-- ---- over files

-- over the file of this number, which may be missing or too long: that, or what `Due` has over its bytes
abbrev pub DueForFile : (List ℕ → Status → List ℕ → Type 0) → ℕ → Option (List ℕ) → Status → List ℕ → Type 0
DueForFile Due number None status text = (status ≡ ReadFault (NoFile number)) × (text ≡ stop_line (NoFile number))
DueForFile Due number (Some bytes) status text =
    MatchBool (nat_lt most_bytes (length bytes))
    ((status ≡ Refused (TooLong number)) × (text ≡ too_long_line number))
    (Due bytes status text)

-- over the files of these names, with numbers from this one on, of which the first of a name counts: the first that is missing or too long, or what `Due` has over their contents
abbrev pub DueForFiles : (List (List ℕ) → Status → List ℕ → Type 0) → ℕ → (names : List (List ℕ)) → List (List ℕ × List ℕ) → Status → List ℕ → Type 0
DueForFiles Due number [] files status text = Due [] status text
DueForFiles Due number (name ∷ names) files status text = DueForFile (λ bytes. DueForFiles (λ contents. Due (bytes ∷ contents)) (number + 1) names files) number (file_named files name) status text

-- the names of the files that are asked for, in order
abbrev pub names_asked : Result Request WordFault → List (List ℕ)
names_asked (Ok request) = names_of request
names_asked (Err fault) = []

-- Over a shelf with these files: all files that are asked for are looked at before what any of them says.
abbrev pub DueForRequest : Result Request WordFault → List (List ℕ × List ℕ) → Status → List ℕ → Type 0
DueForRequest request files status text = DueForFiles (DueOverAsked request) 1 (names_asked request) files status text

-- The status and the text that are due for these words over these files.
abbrev pub Due : List (List ℕ) → List (List ℕ × List ℕ) → Status → List ℕ → Type 0
Due words files status text = DueForRequest (asked words) files status text

-- the words ask for the equations, which `mps` writes as they are made
pub record AskForEquations (words : List (List ℕ)) : Type 0 where
  pub name : List ℕ
  pub places : ℕ
  pub request : Request
  pub asks : asked words ≡ Ok request
  pub is : request.question ≡ Mps name places
