-- What a conflict is: inequalities that can't be met together, each of which is needed for that.
use Rattle.std.specs.Prelude.{◌≡◌, ◌≢◌, ℕ, pos, ℤ, Bool, true, not, ◌&&◌, Contains, List, [], ◌∷◌, filter, ⊤}
use Rattle.row_problem.specs.Prelude.{list_any, is_eq, value_of, Frac, Row, RowName, Var, ascends, keys_of, row_name_cmp, var_cmp, value_in, names_of, AdmitsNone, AreMultipliersOver, Refutes, AreOverSome, AreValuesOver, MeetsAll, Values, Multipliers}
use Rattle.row_problem.specs.Sizes.{is_unequal}
use Rattle.conflict_sets.specs.Trials.{rows_with}
use Rattle.conflict_sets.specs.declared.conflict.Conflict.{Conflict}

-- ---- members

-- the name is one of these
abbrev pub is_member : List RowName → RowName → Bool
is_member names name = list_any (λ member. is_eq (row_name_cmp name member)) names

-- it is one of them, and not this one
abbrev pub is_other_member : List RowName → RowName → RowName → Bool
is_other_member names left_out name = is_member names name && not (is_eq (row_name_cmp name left_out))

-- the names of the inequalities among rows
abbrev pub inequalities : List Row → List RowName
inequalities rows = names_of (filter (λ row. is_unequal row.sense) rows)

-- ---- what is known of them

-- the plan has a value for each variable, and meets these rows with right signs
pub record IsWholePlan (rows : List Row) (vars : List Var) (plan : Values) : Type 0 where
  pub whole : keys_of plan ≡ vars
  pub some : AreOverSome var_cmp plan
  pub meets : (q : ℕ) (x : Var → ℤ) → AreValuesOver q x plan → MeetsAll rows vars q x

-- Some multipliers, those of the members among them, refute these rows: so no plan meets them. They are whole numbers over one denominator, so
-- that `refutes` speaks of some.
pub record AreRefuted (rows : List Row) (vars : List Var) (members : List (RowName × Frac)) : Type 0 where
  pub multipliers : Multipliers
  pub some : AreOverSome row_name_cmp multipliers
  pub printed : (member : RowName × Frac) → Contains members member → value_in row_name_cmp multipliers member.0 ≡ value_of member.1
  pub refutes : (s : ℕ) (y : RowName → ℤ) → AreMultipliersOver s y multipliers → Refutes rows vars s y
  pub none : AdmitsNone rows vars

-- for each of these members there is the plan in its place, which meets every equation and all other members
abbrev pub AreNeeded : List Row → List Var → List RowName → List (RowName × Frac) → List Values → Type 0
AreNeeded rows vars names [] [] = ⊤
AreNeeded rows vars names [] (plan ∷ plans) = ⊥
AreNeeded rows vars names (member ∷ members) [] = ⊥
AreNeeded rows vars names (member ∷ members) (plan ∷ plans) =
    IsWholePlan (rows_with (is_other_member names member.0) rows) vars plan × AreNeeded rows vars names members plans

-- ---- conflicts

-- The members are inequalities, in the order of rows, each with a multiplier other than 0. No plan with right signs meets every equation and all members; and for each member some plan meets every equation and all other members.
pub record IsConflict (rows : List Row) (vars : List Var) (conflict : Conflict) : Type 0 where
  pub ascending : ascends row_name_cmp (keys_of conflict.members.items) ≡ true
  pub among : (name : RowName) → Contains (keys_of conflict.members.items) name → Contains (inequalities rows) name
  pub used : (member : RowName × Frac) → Contains conflict.members.items member → (value_of member.1).top ≢ pos 0
  pub refuted : AreRefuted (rows_with (is_member (keys_of conflict.members.items)) rows) vars conflict.members.items
  pub needed : AreNeeded rows vars (keys_of conflict.members.items) conflict.members.items conflict.plans.items

-- some plan meets all rows with right signs
pub record AdmitsSome (rows : List Row) (vars : List Var) : Type 0 where
  pub over : ℕ
  pub plan : Var → ℤ
  pub meets : MeetsAll rows vars over plan
