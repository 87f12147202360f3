-- Table by table.
use Rattle.result_tables.proofs.Common.{ℕ, ◌+◌, List, ◌++◌, drop, map, sym, ap, ◌∙◌, append-nil, map-append, flat_map-append, flat_map, Rational, SetLists, Var, kind_table, table_kinds, table_text}
use Rattle.result_tables.proofs.TextLaws.{IsJoined, text_next}
use Rattle.result_tables.proofs.quantities.push_kind_tables.Goals as goal

module _ (sets : SetLists) (vars : List Var) (plan : List (Var × Rational)) where
  abbrev text : List ℕ → List ℕ
  text kinds = flat_map table_text (map (kind_table sets vars plan) kinds)

  joined : IsJoined text
  joined xs ys = ap (flat_map table_text) (map-append (kind_table sets vars plan) xs ys) ∙ flat_map-append table_text (map (kind_table sets vars plan) xs) (map (kind_table sets vars plan) ys)

pub loop-kind-preserved : goal.loop-kind-preserved
loop-kind-preserved c =
    let of : List ℕ → List ℕ = text c.args.sets.now c.args.vars.now c.args.plan.now in
    let left : List ℕ = of (drop (c.loop-kind.kind-index + 1) table_kinds) in
    let next = text_next of (joined c.args.sets.now c.args.vars.now c.args.plan.now) table_kinds c.loop-kind.kind-index 0 c.loop-kind.out.items _ c.loop-kind-test.true c.loop-kind.invariant in
    ap (λ t. t ++ left) (c.in_ok-push_kind_table.ensures ∙ ap (λ t. c.loop-kind.out.items ++ t) (sym (append-nil _))) ∙ next
