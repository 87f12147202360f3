-- Named inequalities that can't be met together, each of which is needed for that. The definitions, the named equations that define variables, hold in every
-- plan; an equation that defines nothing, EBa10 of two regions in their other order, says what a definition says.
use Rattle.std.specs.Prelude.{◌≡◌, ℕ, ◌<◌, ℤ, pos, ◌≤ℤ◌, Bool, true, false, ◌||◌, is_some, List, [], ◌∷◌, Contains, None, ⊤}
use Rattle.exact_num.specs.Rational.{Rational}
use Rattle.model_sets.specs.Data.{Data}
use Rattle.row_core.specs.declared.RowName.{RowName}
use Rattle.row_core.specs.declared.Var.{Var}
use Rattle.row_core.specs.Kinds.{kind_is_free}
use Rattle.row_core.specs.Numbers.{keys_of}
use Rattle.row_core.specs.Order.{var_cmp}
use Rattle.named_equations.specs.Existence.{all_variables, exists}
use Rattle.named_equations.specs.Instances.{instances, variable_of}
use Rattle.named_equations.specs.Plans.{Feasible, Meets}
use Rattle.certificate_checker.specs.Denominators.{AreOverSome}
use Rattle.certificate_checker.specs.Plans.{AreValuesOver}
use Rattle.conflict_sets.specs.Conflicts.{is_member, is_other_member}

-- the instance defines a variable, or is asked for
abbrev pub is_asked : (RowName → Bool) → RowName → Bool
is_asked listed name = is_some (variable_of name) || listed name

-- the plan meets each of these that is asked for
abbrev pub MeetsAsked : (RowName → Bool) → ℕ → Data → ℕ → (Var → ℤ) → List RowName → Type 0
MeetsAsked listed places d q x [] = ⊤
MeetsAsked listed places d q x (name ∷ names) = (is_asked listed name ≡ true → Meets places d q x name) × MeetsAsked listed places d q x names

-- the plan, whose variables have the values x v over q, has right signs, and meets every definition and the inequalities that are listed
pub record FeasibleWith (listed : RowName → Bool) (places : ℕ) (d : Data) (q : ℕ) (x : Var → ℤ) : Type 0 where
  pub positive : 0 < q
  pub equations : MeetsAsked listed places d q x (instances d)
  pub signs : (v : Var) → exists d v ≡ true → kind_is_free v.kind ≡ false → pos 0 ≤ℤ x v

-- the values, one for each variable that exists, are such a plan
pub record ArePlanWith (listed : RowName → Bool) (places : ℕ) (d : Data) (values : List (Var × Rational)) : Type 0 where
  pub whole : keys_of values ≡ all_variables d
  pub some : AreOverSome var_cmp values
  pub feasible : (q : ℕ) (x : Var → ℤ) → AreValuesOver q x values → FeasibleWith listed places d q x

-- each of these has its plan, which meets every definition and all others of the names
abbrev pub HavePlans : List RowName → ℕ → Data → List RowName → List (List (Var × Rational)) → Type 0
HavePlans names places d [] [] = ⊤
HavePlans names places d [] (plan ∷ plans) = ⊥
HavePlans names places d (name ∷ left) [] = ⊥
HavePlans names places d (name ∷ left) (plan ∷ plans) = ArePlanWith (is_other_member names name) places d plan × HavePlans names places d left plans

-- Each name is that of an instance that defines nothing. No plan with right signs meets every definition and all of them; and for each one there is a plan that
-- meets every definition and all others.
pub record IsNamedConflict (places : ℕ) (d : Data) (names : List RowName) (plans : List (List (Var × Rational))) : Type 0 where
  pub instance : (name : RowName) → Contains names name → Contains (instances d) name × (variable_of name ≡ None)
  pub none : (q : ℕ) (x : Var → ℤ) → ¬ (FeasibleWith (is_member names) places d q x)
  pub needed : HavePlans names places d names plans

-- some plan meets every named equation with right signs
pub record SomeIsFeasible (places : ℕ) (d : Data) : Type 0 where
  pub over : ℕ
  pub plan : Var → ℤ
  pub feasible : Feasible places d over plan
