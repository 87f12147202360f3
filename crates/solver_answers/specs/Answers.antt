-- What a file tells, by what its first line says of the program that wrote it.
use Rattle.std.specs.Prelude.{◌≡◌, ℕ, ◌+◌, ◌==◌, Bool, true, false, ◌||◌, List, [], ◌∷◌, length, codes, Option, Some, None, if◌then◌else◌, ⊤}
use Rattle.model_sets.specs.Members.{SetLists}
use Rattle.mps_meaning.specs.Lines.{lines}
use Rattle.plan_files.specs.Answers.{variable_names}
use Rattle.plan_files.specs.Files.{records_of}
use Rattle.row_core.specs.declared.Var.{Var}
use Rattle.solver_answers.specs.declared.answer.Answer.{Answer}
use Rattle.solver_answers.specs.declared.answer.AnswerFail.{AnswerFail}
use Rattle.solver_answers.specs.declared.answer.AnswerFail.TheVariants.{Fault, Memory}
use Rattle.solver_answers.specs.declared.form.Form.{Form}
use Rattle.solver_answers.specs.declared.form.Form.TheVariants.{Coin, Glpsol, Highs}
use Rattle.solver_answers.specs.declared.found.Found.{Found}
use Rattle.solver_answers.specs.declared.found.Found.TheVariants.{Blank}
use Rattle.solver_answers.specs.CoinTexts.{coin_line, coin_state, is_state}
use Rattle.solver_answers.specs.GlpsolTexts.{glpsol_line}
use Rattle.solver_answers.specs.HighsTexts.{highs_line, highs_state}
use Rattle.solver_answers.specs.Tables.{TableTells}
use Rattle.solver_answers.specs.Told.{Breaks, IsAnswer, Told, told}
use Rattle.solver_answers.specs.Words.{Word, says, words}

-- the form of a text by the words of its first line, none where no solver writes such a line
abbrev pub form_of : List Word → Option Form
form_of [] = None
form_of (first ∷ later) =
    if is_state first then Some Coin
    else if says first (codes "c") || says first (codes "s") then Some Glpsol
    else if says first (codes "Model") then Some Highs
    else None

-- Clp and CBC write no mark at the end; glpsol writes `e o f`, and HiGHS the duals after all values
abbrev pub ends_with_mark : Form → Bool
ends_with_mark Coin = false
ends_with_mark Glpsol = true
ends_with_mark Highs = true

-- what the line of this number tells, over so many columns and rows
abbrev pub found_in : Form → ℕ → ℕ → ℕ → List Word → Found
found_in Coin columns rows number line = if number == 1 then coin_state line else coin_line columns rows line
found_in Glpsol columns rows number line = glpsol_line columns line
found_in Highs columns rows number line = if number == 1 then Blank else if number == 2 then highs_state line else highs_line columns rows line

-- what the lines from this number on tell, one by one
abbrev pub founds_in : Form → ℕ → ℕ → ℕ → List (List ℕ) → List Found
founds_in form columns rows number [] = []
founds_in form columns rows number (line ∷ later) = found_in form columns rows number (words line) ∷ founds_in form columns rows (number + 1) later

-- what a text in this form tells
abbrev pub text_tells : Form → ℕ → ℕ → List ℕ → Told
text_tells form columns rows text = told (ends_with_mark form) 1 (founds_in form columns rows 1 (lines text))

-- the words of the first line, none where there is no line
abbrev pub first_words : List (List ℕ) → List Word
first_words [] = []
first_words (line ∷ later) = words line

-- what a text tells, whose form is this or that of a plan's CSV file, over these variables and so many rows
abbrev pub TellsIn : Option Form → SetLists → List Var → ℕ → List ℕ → Told → Type 0
TellsIn (Some form) sets vars rows text said = said ≡ text_tells form (length vars) rows text
TellsIn None sets vars rows text said = TableTells (variable_names sets vars) (records_of text) said

abbrev pub Tells : SetLists → List Var → ℕ → List ℕ → Told → Type 0
Tells sets vars rows text said = TellsIn (form_of (first_words (lines text))) sets vars rows text said

-- the answer says what the text tells
abbrev pub IsAnswerTo : SetLists → List Var → ℕ → List ℕ → Answer → Type 0
IsAnswerTo sets vars rows text answer = (said : Told) × Tells sets vars rows text said × IsAnswer (length vars) said answer

-- the fail says where the text breaks its form, or that memory ran out
abbrev pub IsFailOfText : SetLists → List Var → ℕ → List ℕ → AnswerFail → Type 0
IsFailOfText sets vars rows text Memory = ⊤
IsFailOfText sets vars rows text (Fault line) = Tells sets vars rows text (Breaks line)
