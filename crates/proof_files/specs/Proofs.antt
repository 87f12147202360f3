-- What the file of a proof tells, and the first rule that it breaks.
use Rattle.std.specs.Prelude.{◌≡◌, ◌⊎◌, true, List, [], Contains, Some, filter}
use Rattle.std.specs.List.{AllByRecursion}
use Rattle.exact_num.specs.Rational.{Rational}
use Rattle.model_sets.specs.Members.{AreSets, SetLists}
use Rattle.row_core.specs.declared.RowName.{RowName}
use Rattle.row_core.specs.declared.Var.{Var}
use Rattle.row_core.specs.Numbers.{ascends, keys_of}
use Rattle.row_core.specs.Order.{row_name_cmp, var_cmp}
use Rattle.plan_files.specs.Answers.{AreGiven, BreaksFirst, IsInForm, first_missing}
use Rattle.plan_files.specs.Files.{Fields, is_named_in}
use Rattle.plan_files.specs.Listed.{IsListedRow, IsListedVariable}
use Rattle.plan_files.specs.Records.{row_fields, variable_fields}
use Rattle.plan_files.specs.declared.faults.PlanFault.{PlanFault}
use Rattle.plan_files.specs.declared.faults.PlanFault.TheVariants.{Missing}
use Rattle.proof_files.specs.declared.proof.Proof.{Proof}
use Rattle.proof_files.specs.declared.proof.Proof.TheVariants.{Optimum, Refutation, Descent}
use Rattle.proof_files.specs.ProofRecords.{direction_fields, proof_names}

-- the keys of which there is a record, in their order
abbrev pub named_of : {K : Type 0} → (K → Fields) → List Fields → List K → List K
named_of name_fields rows keys = filter (λ k. is_named_in rows (name_fields k)) keys

-- the values are those that the records give, one for each key of which there is a record
pub record AreTold {K : Type 0} (name_fields : K → Fields) (rows : List Fields) (keys : List K) (told : List (K × Rational)) : Type 0 where
  pub named : keys_of told ≡ named_of name_fields rows keys
  pub values : AreGiven name_fields rows told

-- and there is a record of each of them
pub record AreAllTold {K : Type 0} (name_fields : K → Fields) (rows : List Fields) (keys : List K) (told : List (K × Rational)) : Type 0 where
  pub whole : keys_of told ≡ keys
  pub values : AreGiven name_fields rows told

-- the records have no value of a plan, and none of a direction
pub record HasNoPlan (sets : SetLists) (vars : List Var) (rows : List Fields) : Type 0 where
  pub no_variable : named_of (variable_fields sets) rows vars ≡ []
  pub no_direction : named_of (direction_fields sets) rows vars ≡ []

-- What the records tell: without a value of a plan or a direction, multipliers that show that there is no plan; with a value of a direction, a plan and
-- the direction; and else a plan and multipliers.
abbrev pub AreRecordsOf : SetLists → List Var → List RowName → List Fields → Proof → Type 0
AreRecordsOf sets vars names rows (Optimum plan multipliers) =
    (named_of (variable_fields sets) rows vars ≡ [] → ⊥) × (named_of (direction_fields sets) rows vars ≡ [])
    × AreAllTold (variable_fields sets) rows vars plan × AreTold (row_fields sets) rows names multipliers
AreRecordsOf sets vars names rows (Refutation multipliers) = HasNoPlan sets vars rows × AreTold (row_fields sets) rows names multipliers
AreRecordsOf sets vars names rows (Descent plan direction) =
    (named_of (direction_fields sets) rows vars ≡ [] → ⊥)
    × AreAllTold (variable_fields sets) rows vars plan × AreTold (direction_fields sets) rows vars direction

-- the records are a proof's: in form, and they tell it
pub record IsProof (sets : SetLists) (vars : List Var) (names : List RowName) (all : List Fields) (proof : Proof) : Type 0 where
  pub rows : List Fields
  pub form : IsInForm (proof_names sets vars names) all rows
  pub told : AreRecordsOf sets vars names rows proof

-- one of the records is of a variable or of a direction; of this variable there is none, of each before it one
pub record MissesFirst (sets : SetLists) (vars : List Var) (rows : List Fields) (fault : PlanFault) : Type 0 where
  pub planned : HasNoPlan sets vars rows → ⊥
  pub v : Var
  pub first : first_missing sets rows vars ≡ Some v
  pub missing : fault ≡ Missing v

-- and every record is right
pub record MissesValue (sets : SetLists) (vars : List Var) (names : List RowName) (all : List Fields) (fault : PlanFault) : Type 0 where
  pub rows : List Fields
  pub form : IsInForm (proof_names sets vars names) all rows
  pub misses : MissesFirst sets vars rows fault

-- the first rule that the file breaks
abbrev pub IsProofFault : SetLists → List Var → List RowName → List Fields → PlanFault → Type 0
IsProofFault sets vars names all fault = BreaksFirst (proof_names sets vars names) all fault ⊎ MissesValue sets vars names all fault

-- ---- what a file can be written of

-- variables and rows are those that the sets have, in their order
pub record NamesAreListed (sets : SetLists) (vars : List Var) (names : List RowName) : Type 0 where
  pub are_sets : AreSets sets
  pub ascending_vars : ascends var_cmp vars ≡ true
  pub listed_vars : AllByRecursion (IsListedVariable sets) vars
  pub ascending_rows : ascends row_name_cmp names ≡ true
  pub listed_rows : AllByRecursion (IsListedRow sets) names

-- the keys are some of the names, in their order
pub record KeysAreNames (names keys : List RowName) : Type 0 where
  pub ascending : ascends row_name_cmp keys ≡ true
  pub among : (name : RowName) → Contains keys name → Contains names name
