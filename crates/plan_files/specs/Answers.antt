-- What a file of a plan or of multipliers tells, and the first rule that it breaks.
use Rattle.std.specs.Prelude.{◌≡◌, ℕ, ◌+◌, true, false, List, [], ◌∷◌, ◌++◌, ◌⊎◌, length, map, filter, not, Contains, Option, Some, ⊤}
use Rattle.std.specs.List.{find, AllByRecursion}
use Rattle.exact_num.specs.Rational.{Rational}
use Rattle.model_sets.specs.Members.{SetLists}
use Rattle.row_core.specs.declared.RowName.{RowName}
use Rattle.row_core.specs.declared.Var.{Var}
use Rattle.row_core.specs.Numbers.{keys_of}
use Rattle.plan_files.specs.declared.faults.PlanFail.{PlanFail}
use Rattle.plan_files.specs.declared.faults.PlanFail.TheVariants.{Fault, Memory}
use Rattle.plan_files.specs.declared.faults.PlanFault.{PlanFault}
use Rattle.plan_files.specs.declared.faults.PlanFault.TheVariants.{BadRecord, UnknownVar, Twice, BadValue, Missing}
use Rattle.plan_files.specs.Files.{Fields, field, name_of, is_named_in, HasNoValue, AreRight, Gives}
use Rattle.plan_files.specs.Records.{header, variable_fields, row_fields}

-- the number of the record after the header and these: the header is record 1
abbrev pub number_after : List Fields → ℕ
number_after earlier = length earlier + 2

-- the record breaks this rule, and none before it: ten fields; a known name; a name of no earlier record; a value
abbrev pub Breaks : List Fields → List Fields → Fields → PlanFault → Type 0
Breaks names earlier r (BadRecord n) = (n ≡ number_after earlier) × ¬ (length r ≡ 10)
Breaks names earlier r (UnknownVar n) = (n ≡ number_after earlier) × (length r ≡ 10) × ¬ (Contains names (name_of r))
Breaks names earlier r (Twice n) = (n ≡ number_after earlier) × (length r ≡ 10) × Contains names (name_of r) × (is_named_in earlier (name_of r) ≡ true)
Breaks names earlier r (BadValue n) = (n ≡ number_after earlier) × (length r ≡ 10) × Contains names (name_of r) × (is_named_in earlier (name_of r) ≡ false) × HasNoValue (field r 9)
Breaks names earlier r (Missing v) = ⊥

-- the records don't begin with the header
abbrev pub HasNoHeader : List Fields → Type 0
HasNoHeader [] = ⊤
HasNoHeader (first ∷ rows) = ¬ (first ≡ header)

-- after the header and right records comes one that breaks this rule
pub record BreaksAtRecord (names all : List Fields) (fault : PlanFault) : Type 0 where
  pub earlier : List Fields
  pub r : Fields
  pub later : List Fields
  pub whole : all ≡ header ∷ earlier ++ r ∷ later
  pub right : AreRight names earlier
  pub broken : Breaks names earlier r fault

-- the first rule that the records break, where they may have these names: record 1 isn't the header, or that of the first record that isn't right
abbrev pub BreaksFirst : List Fields → List Fields → PlanFault → Type 0
BreaksFirst names all fault = (HasNoHeader all × (fault ≡ BadRecord 1)) ⊎ BreaksAtRecord names all fault

-- the file is the header and these records, each right
pub record IsInForm (names : List Fields) (all rows : List Fields) : Type 0 where
  pub whole : all ≡ header ∷ rows
  pub right : AreRight names rows

-- the values are those that the records give to their keys, by the name of a key
abbrev pub AreGiven : {K : Type 0} → (K → Fields) → List Fields → List (K × Rational) → Type 0
AreGiven name_fields rows told = AllByRecursion (λ e. Gives rows (name_fields e.0) (Some e.1)) told

-- the names of variables, and of rows
abbrev pub variable_names : SetLists → List Var → List Fields
variable_names sets vars = map (variable_fields sets) vars

abbrev pub row_names : SetLists → List RowName → List Fields
row_names sets names = map (row_fields sets) names

-- the records are a plan's: in form, with a value for each of the variables
pub record IsPlan (sets : SetLists) (vars : List Var) (all : List Fields) (plan : List (Var × Rational)) : Type 0 where
  pub rows : List Fields
  pub form : IsInForm (variable_names sets vars) all rows
  pub variables : keys_of plan ≡ vars
  pub values : AreGiven (variable_fields sets) rows plan

-- the records are multipliers': in form, with a value for each of the rows that has a record
pub record AreMultipliers (sets : SetLists) (names : List RowName) (all : List Fields) (multipliers : List (RowName × Rational)) : Type 0 where
  pub rows : List Fields
  pub form : IsInForm (row_names sets names) all rows
  pub named : keys_of multipliers ≡ filter (λ name. is_named_in rows (row_fields sets name)) names
  pub values : AreGiven (row_fields sets) rows multipliers

-- the first of the variables that has no record
abbrev pub first_missing : SetLists → List Fields → List Var → Option Var
first_missing sets rows vars = find (λ v. not (is_named_in rows (variable_fields sets v))) vars

-- every record is right, and of this variable there is none, of each before it one
pub record MissesVariable (sets : SetLists) (vars : List Var) (all : List Fields) (fault : PlanFault) : Type 0 where
  pub rows : List Fields
  pub form : IsInForm (variable_names sets vars) all rows
  pub v : Var
  pub first : first_missing sets rows vars ≡ Some v
  pub missing : fault ≡ Missing v

-- the first rule that a plan's file breaks, and that one of multipliers does
abbrev pub IsPlanFault : SetLists → List Var → List Fields → PlanFault → Type 0
IsPlanFault sets vars all fault = BreaksFirst (variable_names sets vars) all fault ⊎ MissesVariable sets vars all fault

abbrev pub IsMultiplierFault : SetLists → List RowName → List Fields → PlanFault → Type 0
IsMultiplierFault sets names all fault = BreaksFirst (row_names sets names) all fault

-- why a file wasn't read is this fault, or that memory ran out
abbrev pub IsFailOf : (PlanFault → Type 0) → PlanFail → Type 0
IsFailOf IsFault (Fault fault) = IsFault fault
IsFailOf IsFault Memory = ⊤
