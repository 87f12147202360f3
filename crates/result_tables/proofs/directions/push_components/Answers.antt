-- Variable by variable.
use Rattle.result_tables.proofs.Common.{ℕ, ◌+◌, List, ◌++◌, ◌∷◌, [], drop, map, sym, ap, ◌∙◌, subst, map-append, Rational, records_text, Var, IsKind, VariableIsWithin, valued, SetLists, direction_table, is_chosen, named_record}
use Rattle.exact_num.specs.declared.fraction.Frac.{Frac}
use Rattle.result_tables.proofs.TextLaws.{IsJoined, mapped_at, passed_joined, text_next}
use Rattle.result_tables.proofs.directions.push_components.Goals as goal

module _ (sets : SetLists) where
  abbrev Listed : Var × Rational → Type 0
  Listed e = IsKind e.0.kind × VariableIsWithin sets e.0

  abbrev text : List (Var × Frac) → List ℕ
  text es = records_text (direction_table sets (map valued es)).records

  joined : IsJoined text
  joined xs ys =
      ap (λ es. records_text (direction_table sets es).records) (map-append valued xs ys)
      ∙ passed_joined (λ e. is_chosen e.0) (named_record sets) (map valued xs) (map valued ys)

pub push_component-requires-clause-listed : goal.push_component-requires-clause-listed
push_component-requires-clause-listed c =
    let here = mapped_at (Listed c.args.sets.now) valued c.args.entries.now c.loop-var.var-index c.loop-var-item.result c.requires c.loop-var-test.true in
    (subst (λ (e : Var × Frac). Listed c.args.sets.now (valued e)) (sym c.loop-var-item.is) here).0

pub push_component-requires-clause-within : goal.push_component-requires-clause-within
push_component-requires-clause-within c =
    let here = mapped_at (Listed c.args.sets.now) valued c.args.entries.now c.loop-var.var-index c.loop-var-item.result c.requires c.loop-var-test.true in
    (subst (λ (e : Var × Frac). Listed c.args.sets.now (valued e)) (sym c.loop-var-item.is) here).1

pub loop-var-preserved : goal.loop-var-preserved
loop-var-preserved c =
    let left : List ℕ = text c.args.sets.now (drop (c.loop-var.var-index + 1) c.args.entries.now) in
    let written = ap (λ (e : Var × Frac). c.loop-var.out.items ++ text c.args.sets.now (e ∷ [])) c.loop-var-item.is in
    ap (λ t. t ++ left) (c.in_ok-push_component.ensures ∙ written)
    ∙ text_next (text c.args.sets.now) (joined c.args.sets.now) c.args.entries.now c.loop-var.var-index c.loop-var-item.result c.loop-var.out.items _ c.loop-var-test.true c.loop-var.invariant
