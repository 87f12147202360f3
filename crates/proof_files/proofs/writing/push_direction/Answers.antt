-- Record by record.
use Rattle.proof_files.proofs.Common.{ℕ, List, ◌++◌, ◌+◌, drop, map, sym, subst, ap, ◌∙◌, AllByRecursion, default_writer, row_text, Rational, Frac, Var, IsKind, valued, direction_record, records_text}
use Rattle.row_core.specs.NameTexts.{VariableIsWithin}
use Rattle.plan_files.proofs.TextLaws.{text_next, valued_at}
use Rattle.proof_files.proofs.writing.push_direction.Goals as goal

pub push_change-requires-clause-listed : goal.push_change-requires-clause-listed
push_change-requires-clause-listed c =
    let entries = c.entries-entries.result.now in
    let all = subst (AllByRecursion (λ (e : Var × Rational). IsKind e.0.kind × VariableIsWithin c.args.sets.now e.0)) (sym c.entries-entries.ensures.values) c.requires in
    let here = valued_at (λ (e : Var × Rational). IsKind e.0.kind × VariableIsWithin c.args.sets.now e.0) entries c.loop-variable.variable-index c.loop-variable-item.result all c.loop-variable-test.true in
    (subst (λ (e : Var × Frac). IsKind e.0.kind × VariableIsWithin c.args.sets.now e.0) (sym c.loop-variable-item.is) here).0

pub push_change-requires-clause-within : goal.push_change-requires-clause-within
push_change-requires-clause-within c =
    let entries = c.entries-entries.result.now in
    let all = subst (AllByRecursion (λ (e : Var × Rational). IsKind e.0.kind × VariableIsWithin c.args.sets.now e.0)) (sym c.entries-entries.ensures.values) c.requires in
    let here = valued_at (λ (e : Var × Rational). IsKind e.0.kind × VariableIsWithin c.args.sets.now e.0) entries c.loop-variable.variable-index c.loop-variable-item.result all c.loop-variable-test.true in
    (subst (λ (e : Var × Frac). IsKind e.0.kind × VariableIsWithin c.args.sets.now e.0) (sym c.loop-variable-item.is) here).1

pub loop-variable-preserved : goal.loop-variable-preserved
loop-variable-preserved c =
    let record_of = direction_record c.args.sets.now in
    let entries = c.entries-entries.result.now in
    let i : ℕ = c.loop-variable.variable-index in
    let out : List ℕ = c.loop-variable.out.items in
    let rest : List ℕ = records_text (map record_of (map valued (drop (i + 1) entries))) in
    let next = text_next record_of entries i c.loop-variable-item.result out (c.args.out.now.items ++ records_text (map record_of (map valued entries))) c.loop-variable-test.true c.loop-variable.invariant in
    ap (λ text. text ++ rest) (c.in_ok-push_change.ensures ∙ ap (λ (e : Var × Frac). out ++ row_text default_writer (record_of (valued e))) c.loop-variable-item.is) ∙ next
