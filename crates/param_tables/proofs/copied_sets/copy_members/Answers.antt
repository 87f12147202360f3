-- Member by member.
use Rattle.std.proofs.Common.{◌≡◌, ◌+◌, ◌-◌, ◌<◌, [], ◌∷◌, ◌++◌, None, Some, length, take, set as with_at, sym, ap, subst, ◌∙◌, arith}
use Rattle.param_tables.proofs.Common.{set-set, take_more, IsDueTo, Fault}
use Rattle.model_sets.specs.Members.{members, first_refusal}
use Rattle.param_tables.proofs.CopyLaws.{none_refused}
use Rattle.param_tables.proofs.SetLaws.{members-set}
use Rattle.param_tables.proofs.copied_sets.copy_members.Goals as goal

pub unreachable-requires : goal.unreachable-requires
unreachable-requires c =
    let k = c.args.set in
    let names = members c.args.sets.now k in
    let i = c.loop-i.i in
    let so_far : members c.loop-i.copy k ≡ take i names =
    ap (λ sets. members sets k) c.loop-i.invariant ∙ members-set c.args.copy.now k (take i names) c.requires.listed c.requires.all in
    let below : i < length names = omega (arith, c.loop-i-test.true, c.count-i-end.ensures.count) in
    let none : first_refusal c.loop-i.copy k c.name_of.result.now ≡ None =
    ap (first_refusal c.loop-i.copy k) c.name_of.ensures ∙ none_refused k names (c.count-i-end.ensures.rules.rules k c.requires.listed) i below c.loop-i.copy so_far in
    let due : IsDueTo (first_refusal c.loop-i.copy k c.name_of.result.now) k (Fault c.in-Err-Fault.field-0-0) =
    subst (IsDueTo (first_refusal c.loop-i.copy k c.name_of.result.now) k) c.in-Err-Fault.field-0-is c.in-Err-Fault.ensures.refused in
    let no : None ≡ Some c.in-Err-Fault.field-0-0.no = sym none ∙ due.0 in
    cc

pub loop-i-preserved : goal.loop-i-preserved
loop-i-preserved c =
    let k = c.args.set in
    let names = members c.args.sets.now k in
    let i = c.loop-i.i in
    let old = c.args.copy.now in
    let so_far : members c.loop-i.copy k ≡ take i names =
    ap (λ sets. members sets k) c.loop-i.invariant ∙ members-set old k (take i names) c.requires.listed c.requires.all in
    let below : i < length names = omega (arith, c.loop-i-test.true, c.count-i-end.ensures.count) in
    c.in-Ok.ensures.appended
    ∙ ap (λ ms. with_at c.loop-i.copy (k - 1) (ms ++ c.name_of.result.now ∷ [])) so_far
    ∙ ap (λ n. with_at c.loop-i.copy (k - 1) (take i names ++ n ∷ [])) c.name_of.ensures
    ∙ ap (with_at c.loop-i.copy (k - 1)) (sym (take_more names i [] below))
    ∙ ap (λ sets. with_at sets (k - 1) (take (i + 1) names)) c.loop-i.invariant
    ∙ set-set old (k - 1) (take i names) (take (i + 1) names)
