-- The rows of a book hold of a plan exactly where the plan meets the named equations, and what the checks say of rows they say of the equations.
use Rattle.std.proofs.Common.{◌≡◌, ℕ, ℤ, pos, ◌*ℤ◌, ◌≤ℤ◌, Bool, true, false, List, [], ◌∷◌, refl, subst, inl, inr}
use Rattle.command_answers.proofs.Common.{◌↔◌, Rational, Data, Row, RowName, Var, kind_is_free, var_cmp, all_variables, instances, Feasible, MeetsEach, cost, Has, Has-from_Contains, Contains-from_Has, AreRowsOf, AdmitsNone, BoundsAll, cost_of, model_cost, AreFeasible, BoundsFeasible, IsBookOf, NoneIsFeasible}
use Rattle.row_core.specs.Values.{IsOver}
use Rattle.certificate_checker.specs.Denominators.{AreOverSome}
use Rattle.certificate_checker.specs.Plans.{AllStand, AreValuesOver, HaveRightSigns, IsRight, MeetsAll}
use Rattle.command_answers.proofs.PlanCosts.{all-of, cost-is}

-- ---- rows and equations

rows-say : (places : ℕ) (d : Data) (q : ℕ) (x : Var → ℤ) (names : List RowName) (rows : List Row) → AreRowsOf places d names rows → AllStand (λ row. row.rhs *ℤ pos q) rows x ↔ MeetsEach places d q x names
rows-say places d q x [] [] are = (λ stand. tt, λ meets. tt)
rows-say places d q x [] (row ∷ rows) are = absurd are
rows-say places d q x (name ∷ names) [] are = absurd are
rows-say places d q x (name ∷ names) (row ∷ rows) are =
    let rest = rows-say places d q x names rows are.1 in
    (λ stand. ((are.0.says q x).0 stand.0, rest.0 stand.1), λ meets. ((are.0.says q x).1 meets.0, rest.1 meets.1))

-- ---- signs

is-right : (b : Bool) (z : ℤ) → (b ≡ false → pos 0 ≤ℤ z) → IsRight b z
is-right true z h = tt
is-right false z h = h refl

least : (b : Bool) (z : ℤ) → IsRight b z → b ≡ false → pos 0 ≤ℤ z
least true z h e = absurd (cc e)
least false z h e = h

pub sign-at : (vars : List Var) (x : Var → ℤ) (v : Var) → HaveRightSigns vars x → Has vars v → kind_is_free v.kind ≡ false → pos 0 ≤ℤ x v
sign-at [] x v signs there fixed = absurd there
sign-at (w ∷ ws) x v signs (inl e) fixed = subst (λ u. kind_is_free u.kind ≡ false → pos 0 ≤ℤ x u) e (least (kind_is_free w.kind) (x w) signs.0) fixed
sign-at (w ∷ ws) x v signs (inr later) fixed = sign-at ws x v signs.1 later fixed

pub signs-each : (vars : List Var) (x : Var → ℤ) → ((v : Var) → Has vars v → kind_is_free v.kind ≡ false → pos 0 ≤ℤ x v) → HaveRightSigns vars x
signs-each [] x h = tt
signs-each (w ∷ ws) x h = (is-right (kind_is_free w.kind) (x w) (h w (inl refl)), signs-each ws x (λ v there. h v (inr there)))

-- ---- books

-- the same rows and variables are as much a book
pub book-of : (places : ℕ) (d : Data) (rows : List Row) (vars : List Var) (same_rows : List Row) (same_vars : List Var) → same_rows ≡ rows → same_vars ≡ vars
    → IsBookOf places d rows vars → IsBookOf places d same_rows same_vars
book-of places d rows vars same_rows same_vars rows_are vars_are book =
    rw (rows_are, vars_are) book

-- ---- plans

module _ (places : ℕ) (d : Data) (rows : List Row) (vars : List Var) (book : IsBookOf places d rows vars) where
  -- the variables of the book are those of the data
  pub vars-are : vars ≡ all_variables d
  vars-are = all-of d vars book.ascending book.exist book.whole

  pub feasible-from_rows : (q : ℕ) (x : Var → ℤ) → MeetsAll rows vars q x → Feasible places d q x
  feasible-from_rows q x meets = record {
    positive = meets.positive;
    equations = (rows-say places d q x (instances d) rows book.are_rows).0 meets.rows_hold;
    signs = λ v there fixed. sign-at vars x v meets.signs (Has-from_Contains vars v (book.whole v there)) fixed;
  }

  pub rows-from_feasible : (q : ℕ) (x : Var → ℤ) → Feasible places d q x → MeetsAll rows vars q x
  rows-from_feasible q x feasible = record {
    positive = feasible.positive;
    rows_hold = (rows-say places d q x (instances d) rows book.are_rows).1 feasible.equations;
    signs = signs-each vars x (λ v there fixed. feasible.signs v (book.exist v (Contains-from_Has vars v there)) fixed);
  }

  -- the cost is that of the data
  pub costs-same : (x : Var → ℤ) → cost_of model_cost vars x ≡ cost d x
  costs-same x = cost-is d vars book.ascending book.exist book.whole x

  -- a bound on what the rows admit bounds every feasible plan
  pub bounds-feasible : (bound : Rational) → BoundsAll model_cost rows vars bound → BoundsFeasible places d bound
  bounds-feasible bound bounds = λ q x feasible. rw (costs-same x) at (bounds q x (rows-from_feasible q x feasible))

  -- values that meet all rows are a feasible plan, and cost what they do over the rows
  pub are-feasible : (plan : List (Var × Rational)) (amount : Rational) → AreOverSome var_cmp plan
      → ((q : ℕ) (x : Var → ℤ) → AreValuesOver q x plan → MeetsAll rows vars q x × IsOver (pos q) amount (cost_of model_cost vars x)) → AreFeasible places d plan amount
  are-feasible plan amount some meets = record {
    some = some;
    feasible = λ q x over. feasible-from_rows q x (meets q x over).0;
    costs = λ q x over. rw (costs-same x) at (meets q x over).1;
  }

  -- where the rows admit no plan, none is feasible
  pub none-feasible : AdmitsNone rows vars → NoneIsFeasible places d
  none-feasible none = λ q x feasible. none q x (rows-from_feasible q x feasible)
