use Rattle.std.proofs.Common.{◌≡◌, ◌+◌, ◌-◌, ◌<◌, [], ◌∷◌, ◌++◌, None, length, get_or, take, set as with_at, sym, ap, subst, ◌∙◌}
use Rattle.param_tables.proofs.Common.{set-set, take_more, err_from_is_err_and, members, first_of, member_refusals, refusal_after, IsSetFailDue}
use Rattle.param_tables.proofs.SetLaws.{members-set, free_after, refused_after, due_first}
use Rattle.param_tables.proofs.TurnLaws.{in_turn_free, in_turn_refused}
use Rattle.param_tables.proofs.set_members.add_members.Goals as goal

pub returns-in_err-add-clause-refused : goal.returns-in_err-add-clause-refused
returns-in_err-add-clause-refused c =
    let k = c.args.set in
    let names = c.args.names.now in
    let i = c.loop-name.name-index in
    let x = c.name-item.result in
    let fail = c.in_err-add.field-0.0 in
    let p = err_from_is_err_and c.from_residual.result c.from_residual.ensures.1 in
    let so_far : members c.loop-name.sets k ≡ take i names =
    ap (λ sets. members sets k) c.loop-name.invariant.sets ∙ members-set c.args.sets.now k (take i names) c.requires.listed c.requires.all in
    let name : c.bytes.result.now ≡ get_or names i x = c.bytes.ensures ∙ c.name-item.is in
    let due : IsSetFailDue (refusal_after k (take i names) c.bytes.result.now) fail = refused_after c.loop-name.sets k (take i names) c.bytes.result.now fail c.requires.listed so_far c.in_err-add.ensures.refused in
    let due_here : IsSetFailDue (refusal_after k (take i names) (get_or names i x)) fail = subst (λ n. IsSetFailDue (refusal_after k (take i names) n) fail) name due in
    let below : i < length names = c.loop-name-test.true in
    rw (p.1, p.2) (due_first (refusal_after k (take i names) (get_or names i x)) (first_of (member_refusals k names)) fail (λ fault found. in_turn_refused (refusal_after k) names i x (member_refusals k names) fault below found c.loop-name.invariant.refusals) due_here)

pub loop-name-preserved : goal.loop-name-preserved
loop-name-preserved c =
    let k = c.args.set in
    let names = c.args.names.now in
    let i = c.loop-name.name-index in
    let x = c.name-item.result in
    let old = c.args.sets.now in
    let so_far : members c.loop-name.sets k ≡ take i names =
    ap (λ sets. members sets k) c.loop-name.invariant.sets ∙ members-set old k (take i names) c.requires.listed c.requires.all in
    let name : c.bytes.result.now ≡ get_or names i x = c.bytes.ensures ∙ c.name-item.is in
    let below : i < length names = c.loop-name-test.true in
    let free : refusal_after k (take i names) (get_or names i x) ≡ None =
    ap (refusal_after k (take i names)) (sym name) ∙ free_after c.loop-name.sets k (take i names) c.bytes.result.now c.requires.listed so_far c.in_ok-add.ensures.taken in
    record {
      sets =
          c.in_ok-add.ensures.appended
          ∙ ap (λ ms. with_at c.loop-name.sets (k - 1) (ms ++ c.bytes.result.now ∷ [])) so_far
          ∙ ap (λ n. with_at c.loop-name.sets (k - 1) (take i names ++ n ∷ [])) name
          ∙ ap (with_at c.loop-name.sets (k - 1)) (sym (take_more names i x below))
          ∙ ap (λ sets. with_at sets (k - 1) (take (i + 1) names)) c.loop-name.invariant.sets
          ∙ set-set old (k - 1) (take i names) (take (i + 1) names);
      refusals = in_turn_free (refusal_after k) names i x (member_refusals k names) below free c.loop-name.invariant.refusals;
    }
