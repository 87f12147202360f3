-- What the row that limits the cost says, and which variables it has.
use Rattle.span_finder.proofs.Common.{◌≡◌, ℕ, ℤ, pos, ◌+ℤ◌, ◌*ℤ◌, List, [], ◌∷◌, ◌⊎◌, inl, inr, ap, ◌∙◌, subst, arith, ◌↔◌, ◌<ℤ◌, Result, Ok, Err, IfOk, ints, Ordering, Less, Greater, Rational, plus, ring, zero-*ℤ, Row, Most, Var, Stopped, is_zero, variables_of, var_cmp, RowHolds, Stands, gathered, gathered_onto, with_term, IsSumOver, SaysTheSame, kept, written_entries, written_right, IsOver-one, IsOver-own, IsSumOver-gathered, cost_of, model_cost, Has, span_name, Values, by_test, CostsAtMost, IsLimitRow, cost_terms, is_cost}
use Rattle.std.specs.declared.cmp.Ordering.TheVariants.{Equal as Alike}

-- ---- what it says

-- the sum of the terms is the cost
pub cost-sum : (s : ℤ) (x : Var → ℤ) (vs : List Var) → IsSumOver s x (cost_terms vs) (cost_of model_cost vs x *ℤ s)
cost-sum s x [] = zero-*ℤ s
cost-sum s x (v ∷ vs) =
    let rest = cost-sum s x vs in
    by_test (is_cost v) (λ is. rw is (s, cost_of model_cost vs x *ℤ s, IsOver-one s, rest, counted s (x v) (cost_of model_cost vs x))) (λ is. rw (is, uncounted s (x v) (cost_of model_cost vs x)) rest)
  where
    counted : (s a c : ℤ) → ((pos 1 *ℤ a) +ℤ c) *ℤ s ≡ (s *ℤ a) +ℤ (c *ℤ s)
    counted s a c = simp ring

    uncounted : (s a c : ℤ) → ((pos 0 *ℤ a) +ℤ c) *ℤ s ≡ c *ℤ s
    uncounted s a c = ap (λ z. (z +ℤ c) *ℤ s) (zero-*ℤ a) ∙ ap (λ z. z *ℤ s) (nothing c)
      where
        nothing : (c : ℤ) → pos 0 +ℤ c ≡ c
        nothing c = omega (arith, ints)

pub limit-says : (vars : List Var) (limit : Rational) (row : Row) → pos 0 <ℤ limit.bottom → row.sense ≡ Most → SaysTheSame (gathered (cost_terms vars)) limit row → (q : ℕ) (x : Var → ℤ) → RowHolds row q x ↔ CostsAtMost vars limit q x
limit-says vars limit row positive sense says q x =
    let cost : ℤ = cost_of model_cost vars x *ℤ limit.bottom in
    let both : RowHolds row q x ↔ Stands row.sense cost (limit.top *ℤ pos q) =
    says q x limit.bottom cost limit.top positive (IsSumOver-gathered limit.bottom x (cost_terms vars) cost (cost-sum limit.bottom x vars)) (IsOver-own limit positive) in
    subst (λ s. RowHolds row q x ↔ Stands s cost (limit.top *ℤ pos q)) sense both

-- ---- its variables

kept-has : (terms : Values) (v : Var) → Has (variables_of (kept terms)) v → Has (variables_of terms) v
kept-has [] v h = h
kept-has (t ∷ terms) v h = by_test (is_zero t.1.top) (λ is. inr (kept-has terms v (rw is at h))) (λ is. elim (rw is at h) [ inl e ↦ inl e | inr k ↦ inr (kept-has terms v k) ])

with-has : (new : Var × Rational) (terms : Values) (v : Var) → Has (variables_of (with_term new terms)) v → (new.0 ≡ v) ⊎ Has (variables_of terms) v
with-has new [] v h = h
with-has new (t ∷ terms) v h = cases (var_cmp new.0 t.0) h (with-has new terms v)
  where
    cases : (o : Ordering) → Has (variables_of (elim o [ Less ↦ new ∷ t ∷ terms | Alike ↦ (t.0, plus t.1 new.1) ∷ terms | Greater ↦ t ∷ with_term new terms ])) v
        → (Has (variables_of (with_term new terms)) v → (new.0 ≡ v) ⊎ Has (variables_of terms) v) → (new.0 ≡ v) ⊎ Has (variables_of (t ∷ terms)) v
    cases Less k rest = k
    cases Alike k rest = inr k
    cases Greater (inl e) rest = inr (inl e)
    cases Greater (inr k) rest = elim (rest k) [ inl e ↦ inl e | inr l ↦ inr (inr l) ]

gathered-has : (terms more : Values) (v : Var) → Has (variables_of (gathered_onto terms more)) v → Has (variables_of terms) v ⊎ Has (variables_of more) v
gathered-has terms [] v h = inl h
gathered-has terms (new ∷ more) v h =
    elim (gathered-has (with_term new terms) more v h) [
      | inl k ↦ elim (with-has new terms v k) [ inl e ↦ inr (inl e) | inr l ↦ inl l ]
      | inr k ↦ inr (inr k)
    ]

terms-has : (vs : List Var) (v : Var) → Has (variables_of (cost_terms vs)) v → Has vs v
terms-has [] v h = h
terms-has (w ∷ vs) v h = by_test (is_cost w) (λ is. elim (rw is at h) [ inl e ↦ inl e | inr k ↦ inr (terms-has vs v k) ]) (λ is. inr (terms-has vs v (rw is at h)))

-- each is one of the variables
pub limit-has : (vars : List Var) (v : Var) → Has (variables_of (kept (gathered (cost_terms vars)))) v → Has vars v
limit-has vars v h =
    elim (gathered-has [] (cost_terms vars) v (kept-has (gathered (cost_terms vars)) v h)) [
      | inl k ↦ absurd k
      | inr k ↦ terms-has vars v k
    ]

-- ---- the row as it is written

pub row-answer : (vars : List Var) (limit : Rational) (terms : Values) (answer : Result Row Stopped) → pos 0 <ℤ limit.bottom → terms ≡ gathered (cost_terms vars) → IfOk answer (λ row. row.name ≡ span_name) → IfOk answer (λ row. row.sense ≡ Most)
    → IfOk answer (λ row. row.entries.items ≡ written_entries terms limit) → IfOk answer (λ row. row.rhs ≡ written_right terms limit) → IfOk answer (SaysTheSame terms limit) → IfOk answer (λ row. variables_of row.entries.items ≡ variables_of (kept terms))
    → IfOk answer (IsLimitRow vars limit)
row-answer vars limit terms (Ok row) positive is name sense entries right says variables = record {
  name = name;
  sense = sense;
  entries = entries ∙ ap (λ (ts : Values). written_entries ts limit) is;
  right_side = right ∙ ap (λ (ts : Values). written_right ts limit) is;
  variables = variables ∙ ap (λ (ts : Values). variables_of (kept ts)) is;
  says = limit-says vars limit row positive sense (subst (λ (ts : Values). SaysTheSame ts limit row) is says);
}
row-answer vars limit terms (Err e) positive is name sense entries right says variables = tt
