-- Where `compare` ends with status 0, `check` accepts two optima, so the costs of its text are those of plans, and its bounds hold of all plans.
use Rattle.osemosys_run.proofs.Common.{Source, ◌≡◌, ℕ, ℤ, pos, neg_ℤ, ◌<ℤ◌, ◌++◌, inl, inr, List, Some, refl, sym, ◌∙◌, subst, append_assoc, codes, flat_map, Rational, Data, Row, RowName, Var, all_variables, instances, records_of, Proof, Optimum, Refutation, Descent, IsProof, Done, AreFeasible, BoundsFeasible, DueForPlan, multiplier_bound, plan_cost, DueForProofFile, DueForProofTold, ProofLaws, CompareShow, IsJudged, ComparesProofs, IsComparison, Judged, Shows, Written, CheckedBy, DueForCompared, HasLines, IsPromisedDifference}
use Rattle.exact_num.specs.Value.{value_of}
use Rattle.compare_command.specs.Compared.{part_of}
use Rattle.result_pages.specs.Pages.{Part}
use Rattle.command_words.specs.declared.command.CompareShow.TheVariants.{Page, Text}
use Rattle.plan_compare.specs.declared.scenario.Scenario.{Scenario}
use Rattle.plan_compare.specs.Comparisons.{compared_kinds, head_of, kind_text, members_text}
use Rattle.plan_compare.specs.Scenarios.{side_of}
use Rattle.plan_compare.specs.Heads.{at_least, at_most}
use Rattle.plan_compare.specs.LeastCosts.{IsAtLeastDifference, IsAtMostDifference, IsBound, IsCost, IsLeastCost, raised}

-- what the line `difference` is worth, of any costs and bounds
pub record CostLaws : Type 0 where
  pub raises : (places places2 : ℕ) (d d2 : Data) (cost bound2 bound : Rational) (z : ℤ) → IsCost places d cost → IsBound places2 d2 bound2
      → at_least cost bound2 ≡ Some z → IsBound places d bound → IsBound places2 d2 (raised bound z)
  pub lowers : (places places2 : ℕ) (d d2 : Data) (bound cost2 bound2 : Rational) (z : ℤ) → IsBound places d bound → IsCost places2 d2 cost2
      → at_most bound cost2 ≡ Some z → IsBound places2 d2 bound2 → IsBound places d (raised bound2 (neg_ℤ z))
  pub least : (places places2 : ℕ) (d d2 : Data) (cost bound2 least least2 : Rational) (z : ℤ) → IsCost places d cost → IsBound places2 d2 bound2
      → IsLeastCost places d least → IsLeastCost places2 d2 least2 → at_least cost bound2 ≡ Some z → IsAtMostDifference z least least2
  pub most : (places places2 : ℕ) (d d2 : Data) (bound cost2 least least2 : Rational) (z : ℤ) → IsBound places d bound → IsCost places2 d2 cost2
      → IsLeastCost places d least → IsLeastCost places2 d2 least2 → at_most bound cost2 ≡ Some z → IsAtLeastDifference z least least2

-- ---- from what `check` accepts to costs and bounds

-- what a feasible plan costs is a cost
is-cost : (places : ℕ) (d : Data) (plan : List (Var × Rational)) (amount : Rational) → AreFeasible places d plan amount → IsCost places d amount
is-cost places d plan amount are = record {
  q = are.some.over;
  x = are.some.number;
  feasible = are.feasible are.some.over are.some.number (are.some.positive, are.some.each);
  costs = are.costs are.some.over are.some.number (are.some.positive, are.some.each);
}

is-bound : (places : ℕ) (d : Data) (bound : Rational) → pos 0 <ℤ bound.bottom → BoundsFeasible places d bound → IsBound places d bound
is-bound places d bound positive bounds = record { positive = positive; least = bounds }

-- the first lines, and what comes after them
first-lines : (lines members kinds end text : List ℕ) → text ≡ lines ++ members ++ kinds ++ end → (rest : List ℕ) × (text ≡ lines ++ rest)
first-lines lines members kinds end text same =
    (members ++ (kinds ++ end), same ∙ append_assoc (lines ++ members) kinds end ∙ append_assoc lines members (kinds ++ end))

module _ (laws : ProofLaws) (costs : CostLaws) (written : Written) (gap : ℕ) where
  abbrev places : ℕ
  places = written.places

  -- of a file that is accepted, what is due is due of what it tells
  told-so : (d : Data) (rows : List Row) (bytes : List ℕ) (proof : Proof) (said : List ℕ) → IsProof d.sets (all_variables d) (instances d) (records_of bytes) proof
      → DueForProofFile places d rows bytes gap Done said → DueForProofTold places d rows gap proof Done said
  told-so d rows bytes proof said is (inl refused) = absurd (laws.proof_or_fault d.sets (all_variables d) (instances d) (records_of bytes) proof refused.fault is refused.first)
  told-so d rows bytes proof said is (inr read) =
      subst (λ (p : Proof). DueForProofTold places d rows gap p Done said) (laws.one_proof d.sets (all_variables d) (instances d) (records_of bytes) read.0 proof read.1 is) read.2

  -- the plan is feasible and costs so much, and no plan costs less than the bound
  abbrev Worth : Data → List Row → List (Var × Rational) → List (RowName × Rational) → Type 0
  Worth d rows plan multipliers = AreFeasible places d plan (plan_cost d plan) × BoundsFeasible places d (multiplier_bound rows multipliers)

  worth-of_due : (d : Data) (rows : List Row) (plan : List (Var × Rational)) (multipliers : List (RowName × Rational)) (said : List ℕ)
      → DueForPlan places d rows plan (Some multipliers) gap Done said → Worth d rows plan multipliers
  worth-of_due d rows plan multipliers said (inl accepted) = (accepted.feasible, accepted.bounded.0)
  worth-of_due d rows plan multipliers said (inr (inl rejected)) = absurd (cc rejected.status_is)
  worth-of_due d rows plan multipliers said (inr (inr wide)) = absurd (cc wide.status_is)

  worth-of : (source : Source) (proof_bytes : List ℕ) (one : Judged) (plan : List (Var × Rational)) (multipliers : List (RowName × Rational)) → one.proof ≡ Optimum plan multipliers
      → IsJudged places (CheckedBy places gap proof_bytes) source proof_bytes one → Worth one.data_of one.rows plan multipliers
  worth-of source proof_bytes one plan multipliers is judged =
      let told = subst (IsProof one.data_of.sets (all_variables one.data_of) (instances one.data_of) (records_of proof_bytes)) is judged.told in
      worth-of_due one.data_of one.rows plan multipliers one.said (told-so one.data_of one.rows proof_bytes (Optimum plan multipliers) one.said told judged.checked)

  -- ---- the text

  lines-of : (show : CompareShow) (part part2 : Part) (first second : Scenario) (text : List ℕ) → Shows show part part2 first second text → HasLines show (head_of first second) text
  lines-of Text part part2 first second text same =
      first-lines (head_of first second) (members_text first.sets.now second.sets.now) (flat_map (kind_text (side_of first) (side_of second)) compared_kinds) (codes "end\n") text same
  lines-of Page part part2 first second text same = (part, part2, same)

  -- of two optima
  of-comparison : (source : Source) (proof_bytes : List ℕ) (source2 : Source) (proof_bytes2 text : List ℕ) (one two : Judged) (plan : List (Var × Rational)) (multipliers : List (RowName × Rational)) (plan2 : List (Var × Rational)) (multipliers2 : List (RowName × Rational))
      → one.proof ≡ Optimum plan multipliers → two.proof ≡ Optimum plan2 multipliers2
      → IsJudged places (CheckedBy places gap proof_bytes) source proof_bytes one → IsJudged places (CheckedBy places gap proof_bytes2) source2 proof_bytes2 two
      → IsComparison written one two plan multipliers plan2 multipliers2 Done text → IsPromisedDifference written source source2 text
  of-comparison source proof_bytes source2 proof_bytes2 text one two plan multipliers plan2 multipliers2 is is2 judged judged2 compares =
      let worth = worth-of source proof_bytes one plan multipliers is judged in
      let worth2 = worth-of source2 proof_bytes2 two plan2 multipliers2 is2 judged2 in
      let first = compares.first in
      let second = compares.second in
      let cost : IsCost places one.data_of (value_of first.cost) = subst (IsCost places one.data_of) (sym compares.is_first.cost_is) (is-cost places one.data_of plan (plan_cost one.data_of plan) worth.0) in
      let cost2 : IsCost places two.data_of (value_of second.cost) = subst (IsCost places two.data_of) (sym compares.is_second.cost_is) (is-cost places two.data_of plan2 (plan_cost two.data_of plan2) worth2.0) in
      let bound : IsBound places one.data_of (value_of first.bound) =
      is-bound places one.data_of (value_of first.bound) first.bound.positive (subst (BoundsFeasible places one.data_of) (sym compares.is_first.bound_is) worth.1) in
      let bound2 : IsBound places two.data_of (value_of second.bound) =
      is-bound places two.data_of (value_of second.bound) second.bound.positive (subst (BoundsFeasible places two.data_of) (sym compares.is_second.bound_is) worth2.1) in
      record {
        d = one.data_of;
        d2 = two.data_of;
        accepted = judged.accepted;
        accepted2 = judged2.accepted;
        cost = value_of first.cost;
        bound = value_of first.bound;
        cost2 = value_of second.cost;
        bound2 = value_of second.bound;
        has_lines = lines-of written.show (part_of places written.title one) (part_of places written.title2 two) first second text compares.shows;
        is_cost = cost;
        is_bound = bound;
        is_cost2 = cost2;
        is_bound2 = bound2;
        raises = λ b z at h. costs.raises places places one.data_of two.data_of (value_of first.cost) (value_of second.bound) b z cost bound2 at h;
        lowers = λ b z at h. costs.lowers places places one.data_of two.data_of (value_of first.bound) (value_of second.cost) b z bound cost2 at h;
        least = λ least least2 z h k at. costs.least places places one.data_of two.data_of (value_of first.cost) (value_of second.bound) least least2 z cost bound2 h k at;
        most = λ least least2 z h k at. costs.most places places one.data_of two.data_of (value_of first.bound) (value_of second.cost) least least2 z bound cost2 h k at;
      }

  of-proofs : (source : Source) (proof_bytes : List ℕ) (source2 : Source) (proof_bytes2 text : List ℕ) (one two : Judged) (proof proof2 : Proof) → one.proof ≡ proof → two.proof ≡ proof2
      → IsJudged places (CheckedBy places gap proof_bytes) source proof_bytes one → IsJudged places (CheckedBy places gap proof_bytes2) source2 proof_bytes2 two
      → ComparesProofs written proof proof2 one two Done text → IsPromisedDifference written source source2 text
  of-proofs source proof_bytes source2 proof_bytes2 text one two (Optimum plan multipliers) (Optimum plan2 multipliers2) is is2 judged judged2 compares =
      of-comparison source proof_bytes source2 proof_bytes2 text one two plan multipliers plan2 multipliers2 is is2 judged judged2 compares
  of-proofs source proof_bytes source2 proof_bytes2 text one two (Optimum plan multipliers) (Refutation multipliers2) is is2 judged judged2 compares = absurd (cc compares.0)
  of-proofs source proof_bytes source2 proof_bytes2 text one two (Optimum plan multipliers) (Descent plan2 direction2) is is2 judged judged2 compares = absurd (cc compares.0)
  of-proofs source proof_bytes source2 proof_bytes2 text one two (Refutation multipliers) (Optimum plan2 multipliers2) is is2 judged judged2 compares = absurd (cc compares.0)
  of-proofs source proof_bytes source2 proof_bytes2 text one two (Refutation multipliers) (Refutation multipliers2) is is2 judged judged2 compares = absurd (cc compares.0)
  of-proofs source proof_bytes source2 proof_bytes2 text one two (Refutation multipliers) (Descent plan2 direction2) is is2 judged judged2 compares = absurd (cc compares.0)
  of-proofs source proof_bytes source2 proof_bytes2 text one two (Descent plan direction) (Optimum plan2 multipliers2) is is2 judged judged2 compares = absurd (cc compares.0)
  of-proofs source proof_bytes source2 proof_bytes2 text one two (Descent plan direction) (Refutation multipliers2) is is2 judged judged2 compares = absurd (cc compares.0)
  of-proofs source proof_bytes source2 proof_bytes2 text one two (Descent plan direction) (Descent plan2 direction2) is is2 judged judged2 compares = absurd (cc compares.0)

  -- What is promised where the status is 0.
  pub difference-promised : (source : Source) (proof_bytes : List ℕ) (source2 : Source) (proof_bytes2 text : List ℕ) → DueForCompared written gap source proof_bytes source2 proof_bytes2 Done text → IsPromisedDifference written source source2 text
  difference-promised source proof_bytes source2 proof_bytes2 text (inl refused) = absurd (refused.not_done refl)
  difference-promised source proof_bytes source2 proof_bytes2 text (inr (inl second)) = absurd (second.refused.not_done refl)
  difference-promised source proof_bytes source2 proof_bytes2 text (inr (inr both)) =
      of-proofs source proof_bytes source2 proof_bytes2 text both.one both.two both.one.proof both.two.proof refl refl both.first both.second both.compares
