-- What the words of the command line ask for, of all commands with all their options.
use Rattle.std.specs.Prelude.{ℕ, ℤ, Bool, not, ◌&&◌, List, [], ◌∷◌, ◌++◌, codes, Option, Some, None, is_some, unwrap_or, Result, Ok, Err, slice_get, option_map, if◌then◌else◌}
use Rattle.std.specs.Option.{option_and_then, option_to_list}
use Rattle.command_words.specs.declared.fault.WordFault.{WordFault}
use Rattle.command_words.specs.declared.fault.WordFault.TheVariants.{NoCommand, BadCommand, BadForm, BadNumber, BadShow, GapAlone}
use Rattle.command_words.specs.declared.forms.FormName.{FormName}
use Rattle.command_words.specs.declared.forms.FormName.TheVariants as form
use Rattle.command_words.specs.declared.values.Numbers.{Numbers}
use Rattle.command_words.specs.declared.command.SolveShow.{SolveShow}
use Rattle.command_words.specs.declared.command.CompareShow.{CompareShow}
use Rattle.command_words.specs.declared.command.MakeShow.{MakeShow}
use Rattle.command_words.specs.declared.command.SolveMethod.{SolveMethod}
use Rattle.command_words.specs.WordParts.{parts_of}
use Rattle.command_words.specs.Forms.{Given, asks_for_rounded, form_in, forms, given_by, is_command_in}
use Rattle.command_words.specs.LimitLists.{limits_of}
use Rattle.command_words.specs.WordValues.{number_or, places_of, size_of, solve_show_of, make_show_of, compare_show_of, method_of}

-- a command with its files, the names of members, the name of a table, and the values of its options: limits in billionths, gaps and slacks in millionths, the most pivots, and the decimal places of written factors; of `span` a gap where one is given; and for a table, whether its numbers are fractions
pub data Question : Type 0 where
  Mps : (file : List ℕ) (places : ℕ) → Question
  Check : (file plan : List ℕ) (multipliers : Option (List ℕ)) (gap places : ℕ) → Question
  CheckProof : (file proof : List ℕ) (gap places : ℕ) → Question
  Solve : (file : List ℕ) (gap pivots places : ℕ) (show : SolveShow) (method : SolveMethod) → Question
  SolveFrom : (file start : List ℕ) (gap pivots places : ℕ) (show : SolveShow) → Question
  Explain : (file : List ℕ) (pivots places : ℕ) (method : SolveMethod) → Question
  Curve : (file region emission : List ℕ) (limits : List ℤ) (gap pivots places : ℕ) (method : SolveMethod) → Question
  Span : (file region technology year : List ℕ) (slack : ℕ) (gap : Option ℕ) (pivots places : ℕ) (method : SolveMethod) → Question
  Make : (size : ℕ) (show : MakeShow) → Question
  Table : (file proof name : List ℕ) (exact : Bool) (gap places : ℕ) → Question
  Page : (file proof : List ℕ) (gap places : ℕ) → Question
  Warn : (file : List ℕ) → Question
  Compare : (first first_proof second second_proof : List ℕ) (gap places : ℕ) (show : CompareShow) → Question
  Reduce : (file : List ℕ) (places : ℕ) → Question

-- a question, and the names of the files of changes: those of its data file, or of the two of `compare`
pub record Request : Type 0 where
  pub question : Question
  pub changes : Option (List ℕ)
  pub changes2 : Option (List ℕ)

-- ---- what a command is made of

-- what is made of a value, or this fault where there is none
abbrev pub or_fault : {A : Type 0} → WordFault → Option A → (A → Result Question WordFault) → Result Question WordFault
or_fault fault None make = Err fault
or_fault fault (Some value) make = make value

-- the gap where none is given, in millionths: 10 by the rounded method, and where a text is made of a proof, which may be one of that method; else 0
abbrev pub usual_gap : FormName → Given → ℕ
usual_gap form.Table given = 10
usual_gap form.Page given = 10
usual_gap form.Compare given = 10
usual_gap name given = if asks_for_rounded given then 10 else 0

-- the most pivots where none are given: a pivot of the rounded method costs far less than one of the exact method
abbrev pub usual_pivots : Given → ℕ
usual_pivots given = if asks_for_rounded given then 1000000 else 20000

-- the numbers that the options of a form say
abbrev pub numbers_of : FormName → Given → Option Numbers
numbers_of name given =
    option_and_then (λ gap. option_and_then (λ pivots. option_and_then (λ places. option_map (λ slack.
    record { gap = gap; pivots = pivots; places = places; slack = slack }) (number_or 0 (given.value (codes "slack"))))
    (places_of (given.value (codes "places")))) (number_or (usual_pivots given) (given.value (codes "pivots"))))
    (number_or (usual_gap name given) (given.value (codes "gap")))

-- word i, counted from 0, of those that the form has
abbrev pub word_at : Given → ℕ → List ℕ
word_at given i = unwrap_or (slice_get given.words i) []

-- the gap, if one is given: `span` tries several where none is
abbrev pub asked_gap : Given → Numbers → Option ℕ
asked_gap given numbers = option_map (λ text. numbers.gap) (given.value (codes "gap"))

-- the value of an option that the form needs
abbrev pub text_of : Given → List ℕ → List ℕ
text_of given name = unwrap_or (given.value name) []

-- The command of a form with what is given and these numbers. The numbers of words come before the words that options have. `check` of a plan
-- without multipliers has no bound, so a gap is refused there, also the gap 0.
abbrev pub made : FormName → Given → Numbers → Result Question WordFault
made form.Mps given numbers = Ok (Mps (word_at given 0) numbers.places)
made form.Check given numbers =
    if is_some (given.value (codes "gap")) && not (is_some (slice_get given.words 2)) then Err GapAlone
    else Ok (Check (word_at given 0) (word_at given 1) (slice_get given.words 2) numbers.gap numbers.places)
made form.CheckProof given numbers = Ok (CheckProof (word_at given 0) (text_of given (codes "proof")) numbers.gap numbers.places)
made form.Solve given numbers =
    or_fault BadShow (solve_show_of (given.value (codes "show"))) (λ show.
    or_fault BadShow (method_of (given.value (codes "method"))) (λ method. Ok (Solve (word_at given 0) numbers.gap numbers.pivots numbers.places show method)))
made form.SolveFrom given numbers =
    or_fault BadShow (solve_show_of (given.value (codes "show"))) (λ show.
    Ok (SolveFrom (word_at given 0) (text_of given (codes "start")) numbers.gap numbers.pivots numbers.places show))
made form.Explain given numbers =
    or_fault BadShow (method_of (given.value (codes "method"))) (λ method. Ok (Explain (word_at given 0) numbers.pivots numbers.places method))
made form.Curve given numbers =
    or_fault BadNumber (limits_of (word_at given 3)) (λ limits.
    or_fault BadShow (method_of (given.value (codes "method"))) (λ method.
    Ok (Curve (word_at given 0) (word_at given 1) (word_at given 2) limits numbers.gap numbers.pivots numbers.places method)))
made form.Span given numbers =
    or_fault BadShow (method_of (given.value (codes "method"))) (λ method.
    Ok (Span (word_at given 0) (word_at given 1) (word_at given 2) (word_at given 3) numbers.slack (asked_gap given numbers) numbers.pivots numbers.places method))
made form.Make given numbers =
    or_fault BadNumber (size_of (word_at given 0)) (λ size. or_fault BadShow (make_show_of (given.value (codes "show"))) (λ show. Ok (Make size show)))
made form.Table given numbers =
    Ok (Table (word_at given 0) (word_at given 1) (word_at given 2) (is_some (given.value (codes "exact"))) numbers.gap numbers.places)
made form.Page given numbers = Ok (Page (word_at given 0) (word_at given 1) numbers.gap numbers.places)
made form.Warn given numbers = Ok (Warn (word_at given 0))
made form.Compare given numbers =
    or_fault BadShow (compare_show_of (given.value (codes "show"))) (λ show.
    Ok (Compare (word_at given 0) (word_at given 1) (word_at given 2) (word_at given 3) numbers.gap numbers.places show))
made form.Reduce given numbers = Ok (Reduce (word_at given 0) numbers.places)

-- the command of the form that fits what is given, if one does
abbrev pub command_by : Option FormName → Given → Result Question WordFault
command_by None given = Err BadForm
command_by (Some name) given = or_fault BadNumber (numbers_of name given) (made name given)

-- the question with the files of changes that are given
abbrev pub with_changes : Given → Result Question WordFault → Result Request WordFault
with_changes given (Err fault) = Err fault
with_changes given (Ok question) = Ok (record { question = question; changes = given.value (codes "with"); changes2 = given.value (codes "with2") })

-- the command of this word with what is given, if anything is
abbrev pub command_with : List ℕ → Option Given → Result Request WordFault
command_with word None = Err BadForm
command_with word (Some given) = with_changes given (command_by (form_in forms word given) given)

-- The request of the words, or their first fault in the order NoCommand, BadCommand, BadForm, BadNumber, BadShow, GapAlone.
abbrev pub asked : List (List ℕ) → Result Request WordFault
asked [] = Err NoCommand
asked (first ∷ words) = if is_command_in forms first then command_with first (given_by (parts_of words)) else Err BadCommand

-- the names of a question's files, in the order in which they are read
abbrev pub names_in : Question → List (List ℕ)
names_in (Mps file places) = file ∷ []
names_in (Check file plan None gap places) = file ∷ plan ∷ []
names_in (Check file plan (Some multipliers) gap places) = file ∷ plan ∷ multipliers ∷ []
names_in (CheckProof file proof gap places) = file ∷ proof ∷ []
names_in (Solve file gap pivots places show method) = file ∷ []
names_in (SolveFrom file start gap pivots places show) = file ∷ start ∷ []
names_in (Explain file pivots places method) = file ∷ []
names_in (Curve file region emission limits gap pivots places method) = file ∷ []
names_in (Span file region technology year slack gap pivots places method) = file ∷ []
names_in (Make size show) = []
names_in (Table file proof name exact gap places) = file ∷ proof ∷ []
names_in (Page file proof gap places) = file ∷ proof ∷ []
names_in (Warn file) = file ∷ []
names_in (Compare first first_proof second second_proof gap places show) = first ∷ first_proof ∷ second ∷ second_proof ∷ []
names_in (Reduce file places) = file ∷ []

-- the names of a request's files: those of its question, and then those of changes
abbrev pub names_of : Request → List (List ℕ)
names_of request = names_in request.question ++ option_to_list request.changes ++ option_to_list request.changes2
