use Rattle.std.proofs.Common.{◌≡◌, ◌≢◌, ℕ, ◌+◌, ◌-◌, ◌<◌, ◌≤◌, [], Some, length, get_or, set as with_at, sym, ap, subst, ◌∙◌, inl, inr, arith}
use Rattle.param_tables.proofs.Common.{cases_eq, cases_lt, get_or-replicate, get_or_past, get_or-set_same, get_or-set_other, length-set, err_from_is_err_and, option_map, no_members, empty_set, IsSet, set_count, members_told, set_lists, first_of, fault_in, member_refusals, first_set_refusal, IsSetFailDue, blocks_told, sets_told}
use Rattle.param_tables.proofs.SetLaws.{due_first, sets_told_of, refusals_from, refusals_none, refusals_more, refused_here, refused_at_end, empty_is_set}
use Rattle.param_tables.proofs.set_members.sets_of.Goals as goal

pub loop-set-init : goal.loop-set-init
loop-set-init c =
    let none : c.in_ok-sets.sets ≡ no_members = c.in_ok-sets.ensures in
    record {
      all = ap length none;
      done = λ j below. absurd (omega arith);
      others = λ j above. ap (λ sets. get_or sets j []) none ∙ none_at j;
      refusals = refusals_none (blocks_told c.args.blocks.now);
    }
  where
    none_at : (j : ℕ) → get_or no_members j [] ≡ []
    none_at j = elim (cases_lt j set_count) [ inl below ↦ get_or-replicate set_count j [] [] below | inr above ↦ get_or_past no_members j [] above ]

pub returns-in_err-add_members-clause-refused : goal.returns-in_err-add_members-clause-refused
returns-in_err-add_members-clause-refused c =
    let s = blocks_told c.args.blocks.now in
    let k = c.loop-set.set in
    let is : IsSet k = (c.loop-set.auto.set, omega (arith, c.loop-set-test.true)) in
    let fail = c.in_err-add_members.field-0.0 in
    let given : c.members_of.result.now ≡ members_told s.sets k = c.members_of.ensures ∙ ap (λ blocks. members_told (sets_told blocks) k) c.as_slice.ensures.value in
    let p = err_from_is_err_and c.from_residual-in_err-add_members.result c.from_residual-in_err-add_members.ensures.1 in
    let due : IsSetFailDue (first_of (member_refusals k (members_told s.sets k))) fail = subst (λ names. IsSetFailDue (first_of (member_refusals k names)) fail) given c.in_err-add_members.ensures.refused in
    rw (p.1, p.2) (due_first (first_of (member_refusals k (members_told s.sets k))) (first_set_refusal s) fail (λ fault found. refused_here s k is fault found c.loop-set.invariant.refusals) due)

pub loop-set-preserved : goal.loop-set-preserved
loop-set-preserved c =
    let s = blocks_told c.args.blocks.now in
    let k = c.loop-set.set in
    let is : IsSet k = (c.loop-set.auto.set, omega (arith, c.loop-set-test.true)) in
    let names = members_told s.sets k in
    let given : c.members_of.result.now ≡ names = c.members_of.ensures ∙ ap (λ blocks. members_told (sets_told blocks) k) c.as_slice.ensures.value in
    let now : c.add_members.new.sets ≡ with_at c.loop-set.sets (k - 1) names = c.in_ok-add_members.ensures.added ∙ ap (with_at c.loop-set.sets (k - 1)) given in
    let free : member_refusals k names ≡ [] = ap (member_refusals k) (sym given) ∙ c.in_ok-add_members.ensures.accepted in
    record {
      all = ap length now ∙ length-set c.loop-set.sets (k - 1) names ∙ c.loop-set.invariant.all;
      done = λ j below.
          ap (λ sets. get_or sets j []) now
          ∙ (elim (cases_eq (j + 1) k) [
            | inl same ↦
                let at : k - 1 ≡ j = omega arith in
                let short : j < length c.loop-set.sets = omega (arith, c.loop-set.invariant.all, is.1) in
                ap (λ i. get_or (with_at c.loop-set.sets i names) j []) at ∙ get_or-set_same c.loop-set.sets j names [] short ∙ ap (members_told s.sets) (sym same)
            | inr other ↦
                let low = is.0 in
                let apart : j ≢ (k - 1) = λ e. other (omega arith) in
                get_or-set_other c.loop-set.sets (k - 1) j names [] apart ∙ c.loop-set.invariant.done j (omega arith)
          ]);
      others = λ j above.
          let low = is.0 in
          let apart : j ≢ (k - 1) = λ e. omega arith in
          ap (λ sets. get_or sets j []) now ∙ get_or-set_other c.loop-set.sets (k - 1) j names [] apart ∙ c.loop-set.invariant.others j (omega arith);
      refusals = let next : k ≡ k + 1 - 1 = omega arith in refusals_more s k is free c.loop-set.invariant.refusals ∙ ap (refusals_from s) next;
    }

ended : (n : ℕ) → n ≤ 12 → 12 ≤ n → n ≡ set_count + 1
ended n high low = omega arith

pub returns-in-Ok-clause-sets : goal.returns-in-Ok-clause-sets
returns-in-Ok-clause-sets c =
    let end : c.loop-set.set ≡ set_count + 1 = ended c.loop-set.set (omega (arith, c.loop-set.auto.set-end)) (omega (arith, c.loop-set-test.false)) in
    sets_told_of (blocks_told c.args.blocks.now) c.loop-set.sets c.loop-set.invariant.all (λ j below. c.loop-set.invariant.done j (omega arith))

pub returns-in-Ok-clause-accepted : goal.returns-in-Ok-clause-accepted
returns-in-Ok-clause-accepted c =
    let s = blocks_told c.args.blocks.now in
    let end : c.loop-set.set ≡ set_count + 1 = ended c.loop-set.set (omega (arith, c.loop-set.auto.set-end)) (omega (arith, c.loop-set-test.false)) in
    let told : c.loop-set.sets ≡ set_lists s = sets_told_of s c.loop-set.sets c.loop-set.invariant.all (λ j below. c.loop-set.invariant.done j (omega arith)) in
    let last : c.loop-set.set - 1 ≡ set_count = omega arith in
    refused_at_end s c.loop-set.sets told (c.loop-set.invariant.refusals ∙ ap (refusals_from s) last) ∙ ap (option_map (λ k. fault_in k empty_set)) c.in-Ok.ensures.whole

pub returns-in-Err-clause-refused : goal.returns-in-Err-clause-refused
returns-in-Err-clause-refused c =
    let s = blocks_told c.args.blocks.now in
    let end : c.loop-set.set ≡ set_count + 1 = ended c.loop-set.set (omega (arith, c.loop-set.auto.set-end)) (omega (arith, c.loop-set-test.false)) in
    let told : c.loop-set.sets ≡ set_lists s = sets_told_of s c.loop-set.sets c.loop-set.invariant.all (λ j below. c.loop-set.invariant.done j (omega arith)) in
    let last : c.loop-set.set - 1 ≡ set_count = omega arith in (
      refused_at_end s c.loop-set.sets told (c.loop-set.invariant.refusals ∙ ap (refusals_from s) last)
          ∙ ap (option_map (λ k. fault_in k empty_set)) c.in-Err.ensures.empty.1
          ∙ ap (λ number. Some (fault_in c.in-Err.fault.set number)) (sym c.in-Err.ensures.empty.0),
      empty_is_set c.loop-set.sets c.in-Err.fault.set c.in-Err.ensures.empty.1,
    )
