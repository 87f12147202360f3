-- One variable after another.
use Rattle.row_problem.proofs.Common.{◌≡◌, ℕ, ◌+◌, ◌++◌, Bool, true, false, List, [], ◌∷◌, Option, refl, Some, map, get_or, drop, sym, ap, ap₂, ◌∙◌, subst, arith, append-nil, if◌then◌else◌, at_drop_all, get_or_default, map-append, err_from_is_err_and, Frac, Rational, value_of, Var, ascends, keys_of, var_cmp, valued, drop_at, width_of, is_split, Values}
use Rattle.std.proofs.lemmas.List.{append_assoc}
use Rattle.int_tableau.specs.Starts.{after_columns}
use Rattle.int_tableau.proofs.LoopLaws.{no_variable, width-step}
use Rattle.decimal_solver.proofs.Words.{variable_value, variable_values, with_value, folded, and_then}
use Rattle.decimal_solver.proofs.EndLaws.{keys-append, keys-valued}
use Rattle.decimal_solver.proofs.FoldLaws.{left-next, left-stop, plain-at, plain-end}
use Rattle.decimal_solver.proofs.Nothing.{nothing-later}
use Rattle.decimal_solver.proofs.ending.variable_values.Goals as goal

sum_of : (s : Bool) (c : ℕ) → (if s then c + 2 else c + 1) ≡ after_columns s c
sum_of true c = omega arith
sum_of false c = omega arith

pub returns-in_err-variable_value-clause-nothing : goal.returns-in_err-variable_value-clause-nothing
unfolding variable_values
returns-in_err-variable_value-clause-nothing c =
    let values : List Rational = map value_of c.args.values.now in
    let vs = c.args.variables.now in
    let stop = c.in_err-variable_value.field-0.0 in
    let here = plain-at vs c.loop-variable.variable-index no_variable c.loop-variable-test.true c.loop-variable.invariant.same in
    let q = err_from_is_err_and c.from_residual-in_err-variable_value.result c.from_residual-in_err-variable_value.ensures.1 in
    rw (q.1, q.2)
    (nothing-later (folded {S = ℕ × Values} (with_value values) (0, []) vs) (variable_values values 0 [] vs) stop (λ h. rw h refl)
    (left-stop here (variable_value values c.loop-variable.column (get_or vs c.loop-variable.variable-index no_variable)) stop (λ h. rw h refl) c.in_err-variable_value.ensures.nothing))

pub loop-variable-preserved : goal.loop-variable-preserved
loop-variable-preserved c =
    let values : List Rational = map value_of c.args.values.now in
    let vs = c.args.variables.now in
    let i = c.loop-variable.variable-index in
    let v = get_or vs i no_variable in
    let is : v ≡ get_or vs i v = get_or_default vs i no_variable v c.loop-variable-test.true in
    let column = c.loop-variable.column in
    let made : Values = map valued c.loop-variable.made.items in
    let x : Frac = c.in_ok-variable_value.field-0 in
    let pushed : map valued c.push.new.self.items ≡ made ++ (v, value_of x) ∷ [] = ap (λ (xs : List (Var × Frac)). map valued xs) c.in_ok-push.ensures.items ∙ map-append valued c.loop-variable.made.items ((v, x) ∷ []) in
    let next : c.column_after-column.result ≡ after_columns (is_split v) column = c.column_after-column.ensures ∙ sum_of (is_split v) column in
    record {
      same = left-next (plain-at vs i no_variable c.loop-variable-test.true c.loop-variable.invariant.same)
          (rw c.in_ok-variable_value.ensures.value (ap₂ {C = Option (ℕ × Values)} (λ k m. Some (k, m)) (sym next) (sym pushed)));
      keys =
          c.loop-variable.invariant.keys
          ∙ ap (λ (ws : List Var). keys_of made ++ ws) (drop_at vs i v c.loop-variable-test.true is)
          ∙ sym (append_assoc (keys_of made) (v ∷ []) (drop (i + 1) vs))
          ∙ ap (λ (ks : List Var). ks ++ drop (i + 1) vs) (sym (ap (λ (xs : Values). keys_of xs) pushed ∙ keys-append made ((v, value_of x) ∷ [])));
      width =
          c.loop-variable.invariant.width
          ∙ width-step vs i column v c.loop-variable-test.true is
          ∙ ap (λ k. k + width_of (drop (i + 1) vs)) (sym next);
    }

pub of-requires : goal.of-requires
of-requires c =
    let vs = c.args.variables.now in
    let items : List (Var × Frac) = c.loop-variable.made.items in
    let keys : vs ≡ keys_of items =
    c.loop-variable.invariant.keys ∙ at_drop_all (λ (ws : List Var). keys_of (map valued items) ++ ws) vs c.loop-variable.variable-index (omega (arith, c.loop-variable-test.false)) ∙ append-nil (keys_of (map valued items)) ∙ keys-valued items in
    subst (λ (ws : List Var). ascends var_cmp ws ≡ true) keys c.requires.ascending

pub returns-clause-value : goal.returns-clause-value
unfolding variable_values
returns-clause-value c =
    ap (λ (o : Option (ℕ × Values)). and_then o (λ s. Some s.1)) (plain-end c.args.variables.now c.loop-variable.variable-index (omega (arith, c.loop-variable-test.false)) c.loop-variable.invariant.same)
    ∙ ap Some (sym c.of.ensures)
