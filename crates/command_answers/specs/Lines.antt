-- The lines of refusals and stops that name no place of a text: words, files, rows that can't be made, a linear program that is too large, and why a method stopped.
use Rattle.std.specs.Prelude.{ℕ, List, ◌++◌, codes}
use Rattle.std.specs.Fmt.{decimal}
use Rattle.model_sets.specs.Members.{SetLists}
use Rattle.mps_writer.specs.MpsText.{line}
use Rattle.row_core.specs.declared.place.Place.{Place}
use Rattle.row_core.specs.NameTexts.{row_name, variable_name}
use Rattle.command_answers.specs.declared.status.ReadStop.{ReadStop}
use Rattle.command_answers.specs.declared.status.ReadStop.TheVariants.{NoFile, Failed}
use Rattle.simplex_core.specs.declared.stops.Stop.{Stop}
use Rattle.simplex_core.specs.declared.stops.Stop.TheVariants.{Budget, Width, Trial}
use Rattle.simplex_core.specs.declared.stops.TrialStop.{TrialStop}
use Rattle.simplex_core.specs.declared.stops.TrialStop.TheVariants as trials
use Rattle.command_words.specs.declared.fault.WordFault.{WordFault}
use Rattle.command_words.specs.declared.fault.WordFault.TheVariants.{NoCommand, BadCommand, BadForm, BadNumber, BadShow, GapAlone}

-- a fault of the words by its name
abbrev pub fault_word : WordFault → List ℕ
fault_word NoCommand = codes "NoCommand"
fault_word BadCommand = codes "BadCommand"
fault_word BadForm = codes "BadForm"
fault_word BadNumber = codes "BadNumber"
fault_word BadShow = codes "BadShow"
fault_word GapAlone = codes "GapAlone"

-- the line for words that ask for nothing
abbrev pub words_line : WordFault → List ℕ
words_line fault = line (codes "words refused " ++ fault_word fault)

-- the line for a file that couldn't be read
abbrev pub stop_line : ReadStop → List ℕ
stop_line (NoFile file) = line (codes "no such file " ++ decimal file)
stop_line (Failed file) = line (codes "read fault file " ++ decimal file)

-- the line for a file of more than the most bytes
abbrev pub too_long_line : ℕ → List ℕ
too_long_line file = line (codes "refused too long file " ++ decimal file)

-- the line for rows with too many entries
abbrev pub entries_line : List ℕ
entries_line = line (codes "refused too many entries")

-- the line for a linear program that is too large for `solve`, with how many inequalities and how many columns it has
abbrev pub too_large_line : ℕ → ℕ → List ℕ
too_large_line rows columns = line (codes "refused too large " ++ decimal rows ++ codes " " ++ decimal columns)

-- the line for such a linear program where the rounded method is asked for, and no guess is accepted that makes at most so many pivots
abbrev pub unguessed_line : ℕ → List ℕ
unguessed_line pivots = line (codes "uncertified guesses " ++ decimal pivots)

-- the line for a file of values to start from, the answer of another solver or a plan, that breaks its form at this line first
abbrev pub start_fault_line : ℕ → List ℕ
start_fault_line number = line (codes "refused answer line " ++ decimal number)

-- the line for rows of which `reduce` finds no smaller linear program
abbrev pub no_reduced_line : List ℕ
no_reduced_line = line (codes "refused no reduced program")

-- a place by its name
abbrev pub place_text : SetLists → Place → List ℕ
place_text sets (Place.Row name) = codes "row " ++ row_name sets name
place_text sets (Place.Expand name) = codes "expand " ++ row_name sets name
place_text sets Place.CostRow = codes "cost row"
place_text sets (Place.Pivot number) = codes "pivot " ++ decimal number
place_text sets (Place.LiftPlan var) = codes "plan " ++ variable_name sets var
place_text sets (Place.LiftMultiplier name) = codes "multiplier " ++ row_name sets name
place_text sets (Place.LiftDirection var) = codes "direction " ++ variable_name sets var
place_text sets (Place.Check name) = codes "check " ++ row_name sets name
place_text sets (Place.Column var) = codes "column " ++ variable_name sets var
place_text sets Place.SumCost = codes "sum cost"
place_text sets Place.SumBound = codes "sum bound"
place_text sets Place.SumGap = codes "sum gap"
place_text sets (Place.Price name) = codes "price " ++ row_name sets name

-- why a trial stopped: a pivot is due after the last that it may make, or a number doesn't fit at a place
abbrev pub trial_text : SetLists → TrialStop → List ℕ
trial_text sets (trials.Budget pivots) = codes "budget " ++ decimal pivots
trial_text sets (trials.Width place) = codes "width " ++ place_text sets place

-- the line where the method stopped: a pivot is due after the last that may be made, or a number doesn't fit at a place, or a trial of this number stopped
abbrev pub uncertified_line : SetLists → Stop → List ℕ
uncertified_line sets (Budget pivots) = line (codes "uncertified budget " ++ decimal pivots)
uncertified_line sets (Width place) = line (codes "uncertified width " ++ place_text sets place)
uncertified_line sets (Trial number stop) = line (codes "uncertified trial " ++ decimal number ++ codes " " ++ trial_text sets stop)
