-- Record by record, of the multipliers that aren't 0.
use Rattle.plan_files.proofs.Common.{ℕ, List, Bool, ◌++◌, ◌+◌, drop, map, sym, subst, ap, ◌∙◌, not, AllByRecursion, default_writer, row_text, Rational, value_of, Frac, RowName, IsEquation, RowNameIsWithin, is_zero, valued, nonzero, row_record, records_text}
use Rattle.plan_files.proofs.TextLaws.{passing_next, passing_skipped, valued_at}
use Rattle.plan_files.proofs.writing.push_multipliers.Goals.{then-not-is_zero+in_ok-push_row, else-not-is_zero}
use Rattle.plan_files.proofs.writing.push_multipliers.Goals as goal

-- the entry isn't 0
abbrev passes : RowName × Rational → Bool
passes e = not (is_zero e.1.top)

pub push_row-requires-clause-listed : goal.push_row-requires-clause-listed
push_row-requires-clause-listed c =
    let entries = c.entries-entries.result.now in
    let all = subst (AllByRecursion (λ (e : RowName × Rational). IsEquation e.0.eq × RowNameIsWithin c.args.sets.now e.0)) (sym c.entries-entries.ensures.values) c.requires in
    let here = valued_at (λ (e : RowName × Rational). IsEquation e.0.eq × RowNameIsWithin c.args.sets.now e.0) entries c.loop-name.name-index c.loop-name-item.result all c.loop-name-test.true in
    (subst (λ (e : RowName × Frac). IsEquation e.0.eq × RowNameIsWithin c.args.sets.now e.0) (sym c.loop-name-item.is) here).0

pub push_row-requires-clause-within : goal.push_row-requires-clause-within
push_row-requires-clause-within c =
    let entries = c.entries-entries.result.now in
    let all = subst (AllByRecursion (λ (e : RowName × Rational). IsEquation e.0.eq × RowNameIsWithin c.args.sets.now e.0)) (sym c.entries-entries.ensures.values) c.requires in
    let here = valued_at (λ (e : RowName × Rational). IsEquation e.0.eq × RowNameIsWithin c.args.sets.now e.0) entries c.loop-name.name-index c.loop-name-item.result all c.loop-name-test.true in
    (subst (λ (e : RowName × Frac). IsEquation e.0.eq × RowNameIsWithin c.args.sets.now e.0) (sym c.loop-name-item.is) here).1

pub loop-name-preserved : goal.loop-name-preserved
loop-name-preserved c =
    let record_of = row_record c.args.sets.now in
    let entries = c.entries-entries.result.now in
    let i : ℕ = c.loop-name.name-index in
    let item : RowName × Frac = c.loop-name-item.result in
    let lines : List ℕ = c.loop-name.lines in
    let all : List ℕ = records_text (map record_of (nonzero (map valued entries))) in
    let rest : List ℕ = records_text (map record_of (nonzero (map valued (drop (i + 1) entries)))) in
    let same = ap (λ (e : RowName × Frac). not (is_zero (value_of e.1).top)) (sym c.loop-name-item.is) in
    elim c.if-not-is_zero.branch [
      | then-not-is_zero+in_ok-push_row w ↦
          let next = passing_next passes record_of entries i item lines all c.loop-name-test.true (same ∙ ap not (sym c.is_zero.ensures ∙ w.if-not-is_zero.true)) c.loop-name.invariant in
          let written = ap (λ (e : RowName × Frac). lines ++ row_text default_writer (record_of (valued e))) c.loop-name-item.is in
          ap (λ (text : List ℕ). text ++ rest) w.lines-is ∙ ap (λ text. text ++ rest) (w.in_ok-push_row.ensures ∙ written) ∙ next
      | else-not-is_zero w ↦
          ap (λ (text : List ℕ). text ++ rest) w.lines-is ∙ passing_skipped passes record_of entries i item lines all c.loop-name-test.true (same ∙ ap not (sym c.is_zero.ensures ∙ w.if-not-is_zero.false)) c.loop-name.invariant
    ]
