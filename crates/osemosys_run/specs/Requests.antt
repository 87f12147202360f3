-- The files of a request as they are read.
use Rattle.std.specs.List.{AllByRecursion}
use Rattle.std.specs.Option.{option_to_list}
use Rattle.std.specs.Prelude.{◌≡◌, ℕ, Bool, true, false, List, [], ◌∷◌, ◌++◌, length, map, ⊤}
use Rattle.command_words.specs.Words.{Question, Request, Check, CheckProof, Compare, Make, Mps, Page, Table, Warn, names_in, names_of}
use Rattle.mathprog_data.specs.Pieces.{PieceState, StandsFor}
use Rattle.request_files.specs.Marked.{AllHold, fed_of, held_of}
use Rattle.request_files.specs.Reading.{IsShort}
use Rattle.command_answers.specs.declared.status.Status.{Status}
use Rattle.command_answers.specs.DueForText.{DueForText}
use Rattle.osemosys_run.specs.Due.{DueOver, DueOverData, source_in}

-- the first of some files is fed to a reader
abbrev pub first_marked : List (List ℕ) → List Bool
first_marked [] = []
first_marked (name ∷ names) = true ∷ map (λ name. false) names

-- which files of a question are fed to readers: its data files
abbrev pub marks_in : Question → List Bool
marks_in (Compare first first_proof second second_proof gap places show) = true ∷ false ∷ true ∷ false ∷ []
marks_in question = first_marked (names_in question)

-- and which of a request: files of changes aren't
abbrev pub marks_for : Request → List Bool
marks_for request = marks_in request.question ++ map (λ name. false) (option_to_list request.changes ++ option_to_list request.changes2)

-- the files of a request have these contents: each reader stands for the text of its data file, and the others are held
pub record IsRead (request : Request) (contents : List (List ℕ)) (fed : List PieceState) (held : List (List ℕ)) : Type 0 where
  pub many : length contents ≡ length (names_of request)
  pub short : AllByRecursion IsShort contents
  pub stand : AllHold StandsFor fed (fed_of (marks_for request) contents)
  pub held_is : held ≡ held_of (marks_for request) contents

-- a question is answered over the data of one model
abbrev pub HasOneModel : Question → Type 0
HasOneModel (Mps file places) = ⊥
HasOneModel (Make size show) = ⊥
HasOneModel (Compare first first_proof second second_proof gap places show) = ⊥
HasOneModel question = ⊤

-- so it is, and by the data alone: `warn` looks at what else the text says
abbrev pub IsOverData : Question → Type 0
IsOverData (Mps file places) = ⊥
IsOverData (Make size show) = ⊥
IsOverData (Warn file) = ⊥
IsOverData (Compare first first_proof second second_proof gap places show) = ⊥
IsOverData question = ⊤

-- a question is answered over the data of one model, and begins with a check of what another file holds
abbrev pub BeginsWithCheck : Question → Type 0
BeginsWithCheck (Check file plan multipliers gap places) = ⊤
BeginsWithCheck (CheckProof file proof gap places) = ⊤
BeginsWithCheck (Table file proof name exact gap places) = ⊤
BeginsWithCheck (Page file proof gap places) = ⊤
BeginsWithCheck question = ⊥

-- it names a data file and perhaps others
pub record IsOfOneModel (request : Request) : Type 0 where
  pub data_file : List ℕ
  pub others : List (List ℕ)
  pub names : names_of request ≡ data_file ∷ others
  pub marks : marks_for request ≡ first_marked (names_of request)
  pub over : (contents : List (List ℕ)) (status : Status) (text : List ℕ) → DueForText (DueOverData request.question (source_in request contents).changes contents) (source_in request contents) status text → DueOver request contents status text
