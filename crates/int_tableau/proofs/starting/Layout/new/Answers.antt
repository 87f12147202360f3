-- One variable after another.
use Rattle.int_tableau.proofs.Common.{◌≡◌, ◌+◌, ◌<◌, ◌≤◌, ◌^◌, ◌++◌, ℕ, Bool, true, false, IsTrue, List, length, get_or, drop, if◌then◌else◌, sym, ap, ◌∙◌, subst, arith, get_or_default, Var, keys_of, ascends, var_cmp, width_of, is_split, after_columns, placed}
use Rattle.int_tableau.proofs.LoopLaws.{placed-step, placed-end, width-step, width-end}
use Rattle.int_tableau.proofs.LoopLaws.{no_variable}
use Rattle.int_tableau.proofs.PlaceLaws.{keys-placed}
use Rattle.int_tableau.proofs.starting.Layout.new.Goals as goal

beyond : (s : Bool) (c : ℕ) → c + 1 ≤ after_columns s c
beyond true c = omega arith
beyond false c = omega arith

sum_of : (s : Bool) (c : ℕ) → (if s then c + 2 else c + 1) ≡ after_columns s c
sum_of true c = omega arith
sum_of false c = omega arith

at_position : (vs : List Var) (i : ℕ) → i < length vs → get_or vs i no_variable ≡ get_or vs i (get_or vs i no_variable)
at_position vs i h = get_or_default vs i no_variable (get_or vs i no_variable) h

pub column_after-width-requires : goal.column_after-width-requires
column_after-width-requires c =
    let vs = c.args.variables.now in
    let i = c.loop-variable.variable-index in
    let v = get_or vs i no_variable in
    let step = width-step vs i c.loop-variable.width v c.loop-variable-test.true (at_position vs i c.loop-variable-test.true) in
    omega (arith, c.loop-variable.invariant.width, step, beyond (is_split v) c.loop-variable.width, c.requires.countable)

pub loop-variable-preserved : goal.loop-variable-preserved
loop-variable-preserved c =
    let vs = c.args.variables.now in
    let i = c.loop-variable.variable-index in
    let v = get_or vs i no_variable in
    let here = at_position vs i c.loop-variable-test.true in
    let next : c.column_after-width.result ≡ after_columns (is_split v) c.loop-variable.width = c.column_after-width.ensures ∙ sum_of (is_split v) c.loop-variable.width in
    record {
      places =
          c.loop-variable.invariant.places
          ∙ placed-step vs i c.loop-variable.width v c.loop-variable.places.items c.push.new.self.items c.loop-variable-test.true here c.in_ok-push.ensures.items
          ∙ ap (λ k. c.push.new.self.items ++ placed k (drop (i + 1) vs)) (sym next);
      width =
          c.loop-variable.invariant.width
          ∙ width-step vs i c.loop-variable.width v c.loop-variable-test.true here
          ∙ ap (λ k. k + width_of (drop (i + 1) vs)) (sym next);
    }

-- where all variables have their places, these are the variables
keys_when : (vs : List Var) (places : List (Var × ℕ)) → placed 0 vs ≡ places → keys_of places ≡ vs
keys_when vs places h = ap (λ (ps : List (Var × ℕ)). keys_of ps) (sym h) ∙ keys-placed 0 vs

pub invariant_of-result : goal.invariant_of-result
invariant_of-result c =
    let vs = c.args.variables.now in
    let i = c.loop-variable.variable-index in
    let items = c.loop-variable.places.items in
    let all : placed 0 vs ≡ items = c.loop-variable.invariant.places ∙ placed-end vs i c.loop-variable.width items c.loop-variable-test.false in
    let keys : keys_of items ≡ vs = keys_when vs items all in
    let width : width_of vs ≡ c.loop-variable.width = c.loop-variable.invariant.width ∙ width-end vs i c.loop-variable.width c.loop-variable-test.false in
    let sum : width_of vs + c.args.rows + 1 < 2 ^ 64 = c.requires.countable in
    record {
      placed = ap (λ (ws : List Var). placed 0 ws) keys ∙ all;
      ascending = subst (λ (ws : List Var). IsTrue (ascends var_cmp ws)) (sym keys) c.requires.ascending;
      width_is = sym width ∙ ap (λ (ws : List Var). width_of ws) (sym keys);
      countable = omega arith;
    }

pub returns-clause-variables : goal.returns-clause-variables
returns-clause-variables c =
    let vs = c.args.variables.now in
    let items = c.loop-variable.places.items in
    keys_when vs items (c.loop-variable.invariant.places ∙ placed-end vs c.loop-variable.variable-index c.loop-variable.width items c.loop-variable-test.false)
