use Rattle.int_tableau.proofs.Common.{◌≡◌, ◌+◌, ◌≤◌, ℕ, Bool, true, false, List, Some, sym, ap, ◌∙◌, arith, Var, value_at, keys_of, var_cmp, is_split, after_columns, placed}
use Rattle.int_tableau.proofs.PlaceLaws.{place-within}
use Rattle.int_tableau.proofs.starting.push_variable.Goals as goal

beyond : (s : Bool) (c : ℕ) → c + 1 ≤ after_columns s c
beyond true c = omega arith
beyond false c = omega arith

pub push_columns-requires-clause-countable : goal.push_columns-requires-clause-countable
push_columns-requires-clause-countable c =
    let layout = c.args.layout.now in
    let v = c.args.variable in
    let there : value_at var_cmp (placed 0 (keys_of layout.places.items)) v ≡ Some c.in-Some.column =
    ap (λ (ps : List (Var × ℕ)). value_at var_cmp ps v) (layout.placed ∙ sym c.deref.ensures.value) ∙ sym c.look_up.ensures ∙ c.in-Some.is in
    omega (arith, place-within 0 (keys_of layout.places.items) v c.in-Some.column there, beyond (is_split v) c.in-Some.column, layout.width_is, layout.countable)
