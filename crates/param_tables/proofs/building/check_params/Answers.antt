use Rattle.param_tables.proofs.Common.{◌≡◌, ℕ, Bool, ◌+◌, ◌-◌, List, get_or, sym, ap, ◌∙◌, subst, arith, flat_map, err_from_is_err_and, Data, used_params, IsParam, is_used, param_at, param_count, first_of, param_refusals, AreTablesFor, IsTableFor, IsUsable, IsStopDue, Stop, SetLists, ParamTable}
use Rattle.param_tables.proofs.ParamLaws.{AreFreeUpTo, free_none, free_more, free_all, if_used, if_unused, refused_first}
use Rattle.param_tables.proofs.TableOfLaws.{stop_first, stop_handed}
use Rattle.param_tables.proofs.ViewLaws.{usable}
use Rattle.param_tables.proofs.building.check_params.Goals as goal
use Rattle.param_tables.proofs.building.check_params.Goals.{then-is_used+in_ok-check_param, else-is_used}

pub loop-param-init : goal.loop-param-init
loop-param-init c d same use_same for = free_none d

-- the table of a parameter is that of its place
table_at : (d : Data) (tables : List ParamTable) (p i : ℕ) (table : ParamTable) → AreTablesFor d tables → IsUsable p → i ≡ p - 1 → table ≡ get_or tables i table → IsTableFor d p table
table_at d tables p i table for used at is = subst (IsTableFor d p) (sym (is ∙ ap (λ n. get_or tables n table) at)) (for.each p used table)

-- the stop is due in all data of these tables
IsDueIn : SetLists → List ParamTable → Bool → Stop → Type 0
IsDueIn sets tables second stop = (d : Data) → d.sets ≡ sets → d.second ≡ second → AreTablesFor d tables → IsStopDue (first_of (flat_map (param_refusals d) (used_params d))) sets stop

-- what the test finds is whether the data use the parameter
use_found : (d : Data) (p : ℕ) (second found : Bool) → d.second ≡ second → found ≡ is_used second (param_at p).used → is_used d.second (param_at p).used ≡ found
use_found d p second found same tested = ap (λ b. is_used b (param_at p).used) same ∙ sym tested

pub returns-in_err-check_param-clause-refused : goal.returns-in_err-check_param-clause-refused
unfolding IsDueIn
returns-in_err-check_param-clause-refused c =
    let p = c.loop-param.param in
    let listed : IsParam p = (c.loop-param.auto.param, omega (arith, c.loop-param-test.true)) in
    let why = c.in_err-check_param.field-0.0 in
    let q = err_from_is_err_and c.from_residual.result c.from_residual.ensures.1 in
    stop_handed c.from_residual.result q.0 why (IsDueIn c.args.sets.now c.args.tables.now c.args.second) q.1 q.2 (λ d same use_same for.
    let used = use_found d p c.args.second c.is_used.result use_same c.is_used.ensures ∙ c.if-is_used.true in
    stop_first (first_of (param_refusals d p)) (first_of (flat_map (param_refusals d) (used_params d))) c.args.sets.now why
    (λ r found. refused_first d p listed r (sym (ap first_of (if_used d p used)) ∙ found) (c.loop-param.invariant d same use_same for))
    (c.in_err-check_param.ensures.refused d same (table_at d c.args.tables.now p c.from.result c.index-tables-from.result for (usable d p (listed, used)) c.from.ensures c.index-tables-from.is)))

pub loop-param-preserved : goal.loop-param-preserved
loop-param-preserved c d same use_same for =
    let p = c.loop-param.param in
    let listed : IsParam p = (c.loop-param.auto.param, omega (arith, c.loop-param-test.true)) in
    let next : p ≡ p + 1 - 1 = omega arith in
    let found = use_found d p c.args.second c.is_used.result use_same c.is_used.ensures in
    let so_far = c.loop-param.invariant d same use_same for in
    subst (AreFreeUpTo d) next (elim c.if-is_used.branch [
      | then-is_used+in_ok-check_param w ↦
          let used = found ∙ w.if-is_used.true in
          let free = w.in_ok-check_param.ensures.accepted d same (table_at d c.args.tables.now p w.from.result w.index-tables-from.result for (usable d p (listed, used)) w.from.ensures w.index-tables-from.is) in
          free_more d p listed (sym (if_used d p used) ∙ free) so_far
      | else-is_used w ↦ free_more d p listed (if_unused d p (found ∙ w.if-is_used.false)) so_far
    ])

pub returns-clause-accepted : goal.returns-clause-accepted
returns-clause-accepted c d same use_same for =
    let last : c.loop-param.param - 1 ≡ param_count = omega (arith, c.loop-param-test.false, c.loop-param.auto.param-end) in
    free_all d (subst (AreFreeUpTo d) last (c.loop-param.invariant d same use_same for))
