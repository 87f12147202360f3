-- Each variable has the entry -1.
use Rattle.variable_elimination.proofs.Common.{◌≡◌, ℕ, ◌≤◌, ℤ, pos, List, [], ◌∷◌, ◌++◌, length, map, take, sym, ap, ◌∙◌, subst, take_all, Var, Form, keys_of, numbers_of, ascends, none_zero, all_in_range, IsLowest, var_cmp, cost_variable, minus_one_at}
use Rattle.variable_elimination.proofs.CostLaws.{first_entries, first-ascends, first-nonzero, first-fits, first-lowest, entries_more}
use Rattle.variable_elimination.proofs.costing.cost_start.Goals as goal

pub loop-variable-init : goal.loop-variable-init
loop-variable-init c = c.in_ok-push.ensures.items ∙ ap (λ (es : List (Var × ℤ)). es ++ (cost_variable, pos 1) ∷ []) c.new-entries.ensures.items

pub loop-variable-preserved : goal.loop-variable-preserved
loop-variable-preserved c =
    entries_more c.deref-variable-items.result.now c.loop-variable.variable-index cost_variable c.loop-variable.entries.items c.push-in-loop-variable.new.self.items c.loop-variable-test.true c.loop-variable.invariant c.in_ok-push-2.ensures.items

-- all entries
all_entries : (xs vs : List Var) (i : ℕ) (es : List (Var × ℤ)) → xs ≡ vs → length xs ≤ i → es ≡ (cost_variable, pos 1) ∷ map minus_one_at (take i xs) → es ≡ first_entries vs
all_entries xs vs i es e h is = is ∙ ap (λ (ys : List Var). first_entries ys) (take_all i xs h ∙ e)

pub invariant_of-result : goal.invariant_of-result
invariant_of-result c =
    let vs = c.in_ok-variables.variables.items in
    let e : c.loop-variable.entries.items ≡ first_entries vs = all_entries c.deref-variable-items.result.now vs c.loop-variable.variable-index c.loop-variable.entries.items c.deref-variable-items.ensures.value c.loop-variable-test.false c.loop-variable.invariant in
    record {
      ascending = ap (λ (es : List (Var × ℤ)). ascends var_cmp (keys_of es)) e ∙ first-ascends vs c.in_ok-variables.ensures.costs c.in_ok-variables.ensures.ascending;
      nonzero = ap (λ (es : List (Var × ℤ)). none_zero (numbers_of es)) e ∙ first-nonzero vs;
      fits = ap (λ (es : List (Var × ℤ)). all_in_range (pos 0 ∷ numbers_of es)) e ∙ first-fits vs;
      lowest = subst (λ (es : List (Var × ℤ)). IsLowest (pos 0 ∷ numbers_of es)) (sym e) (first-lowest vs);
    }

pub returns-clause-form : goal.returns-clause-form
returns-clause-form c =
    let vs = c.in_ok-variables.variables.items in
    let e : c.loop-variable.entries.items ≡ first_entries vs = all_entries c.deref-variable-items.result.now vs c.loop-variable.variable-index c.loop-variable.entries.items c.deref-variable-items.ensures.value c.loop-variable-test.false c.loop-variable.invariant in
    ap (λ (es : List (Var × ℤ)). let f : Form = record { entries = es; right = pos 0 } in f) (e ∙ ap first_entries c.in_ok-variables.ensures.made)
