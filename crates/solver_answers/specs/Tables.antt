-- What a CSV file of a plan or of a proof tells: the header and records as `plan_files` has them.
use Rattle.std.specs.Prelude.{◌≡◌, ℕ, ◌/◌, ◌%◌, ◌^◌, ℤ, pos, false, List, [], ◌∷◌, ◌++◌, ◌⊎◌, length, Some, None, unsigned_abs, int_lt, if◌then◌else◌, ⊤}
use Rattle.std.specs.Float.{Float, binary64}
use Rattle.std.specs.Float.Ieee.{add, div, mul, neg, of_int}
use Rattle.exact_num.specs.Rational.{Rational}
use Rattle.plan_files.specs.declared.faults.PlanFail.{PlanFail}
use Rattle.plan_files.specs.declared.faults.PlanFail.TheVariants as plan
use Rattle.plan_files.specs.Answers.{HasNoHeader}
use Rattle.plan_files.specs.Files.{Fields, field, name_of, HasNoValue, HasValue}
use Rattle.plan_files.specs.Reading.{IsEntry}
use Rattle.plan_files.specs.Records.{header}
use Rattle.solver_answers.specs.declared.answer.Answer.{Answer}
use Rattle.solver_answers.specs.declared.answer.AnswerFail.{AnswerFail}
use Rattle.solver_answers.specs.declared.answer.AnswerFail.TheVariants.{Fault, Memory}
use Rattle.solver_answers.specs.declared.floats.TheConstants.{TWO_TO_64}
use Rattle.solver_answers.specs.declared.found.Found.{Found}
use Rattle.solver_answers.specs.declared.found.Found.TheVariants.{Value, Passed, Blank, Nothing, End, Wrong}
use Rattle.solver_answers.specs.Told.{Told, Breaks, Lacks, Gives, IsAnswer, told}

-- a whole number as a float: its two halves of 64 bits, each the nearest, and their sum
abbrev pub float_of_size : ℕ → Float
float_of_size n = add binary64 (mul binary64 (of_int binary64 (pos (n / 2 ^ 64))) TWO_TO_64) (of_int binary64 (pos (n % 2 ^ 64)))

abbrev pub float_of : ℤ → Float
float_of z = if int_lt z (pos 0) then neg (float_of_size (unsigned_abs z)) else float_of_size (unsigned_abs z)

-- a ratio as a float
abbrev pub float_of_ratio : Rational → Float
float_of_ratio x = div binary64 (float_of x.top) (float_of x.bottom)

-- what is found in a record, where variables have these names: it has ten fields, the last of them an exact value, and names one of the variables, or none; or it breaks the form
abbrev pub IsFound : List Fields → Fields → Found → Type 0
IsFound names r (Value place x) = (length r ≡ 10) × IsEntry names (name_of r) (Some place) × ((value : Rational) × HasValue (field r 9) value × (x ≡ float_of_ratio value))
IsFound names r Passed = (length r ≡ 10) × IsEntry names (name_of r) None × ((value : Rational) × HasValue (field r 9) value)
IsFound names r Blank = ⊥
IsFound names r Nothing = ⊥
IsFound names r End = ⊥
IsFound names r Wrong = ¬ (length r ≡ 10) ⊎ HasNoValue (field r 9)

-- this is found in these records, one by one
abbrev pub AreFound : List Fields → List Fields → List Found → Type 0
AreFound names [] [] = ⊤
AreFound names [] (found ∷ founds) = ⊥
AreFound names (r ∷ rows) [] = ⊥
AreFound names (r ∷ rows) (found ∷ founds) = IsFound names r found × AreFound names rows founds

-- what the file tells is that of all its records, unless it is told before their end
abbrev pub IsThrough : Told → List Fields → Type 0
IsThrough (Gives founds) later = later ≡ []
IsThrough (Breaks number) later = ⊤
IsThrough Lacks later = ⊤

-- after the header come records in which this is found, and then others, which aren't read where one of the former breaks the form
pub record RecordsTell (names all : List Fields) (said : Told) : Type 0 where
  pub rows : List Fields
  pub later : List Fields
  pub founds : List Found
  pub whole : all ≡ header ∷ rows ++ later
  pub found : AreFound names rows founds
  pub told : told false 2 founds ≡ said
  pub through : IsThrough said later

-- what the records of a file tell, where variables have these names: the header is record 1
abbrev pub TableTells : List Fields → List Fields → Told → Type 0
TableTells names all said = (HasNoHeader all × (said ≡ Breaks 1)) ⊎ RecordsTell names all said

-- the answer says what the records tell; the fail says where they break the form, or that memory ran out
abbrev pub IsTableAnswer : List Fields → List Fields → Answer → Type 0
IsTableAnswer names all answer = (said : Told) × TableTells names all said × IsAnswer (length names) said answer

abbrev pub IsTableFail : List Fields → List Fields → AnswerFail → Type 0
IsTableFail names all Memory = ⊤
IsTableFail names all (Fault number) = TableTells names all (Breaks number)

-- where the header is refused, record 1 breaks the form, unless memory ran out
abbrev pub IsHeaderFail : PlanFail → AnswerFail → Type 0
IsHeaderFail fail Memory = ⊤
IsHeaderFail (plan.Fault fault) (Fault number) = number ≡ 1
IsHeaderFail plan.Memory (Fault number) = ⊥
