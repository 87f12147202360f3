-- A finding is at a place of members at which its rule speaks.
use Rattle.data_warnings.proofs.Common.{◌≡◌, ℕ, ◌<◌, true, List, [], ◌∷◌, refl, subst, arith, inl, inr, filter, range_with_len, Built, Has, flat_map_parts, range_parts, Finding, Rule, findings, found, found_at, found_in, found_of_one, found_of_two, place_at, rules_in_order, last_members, frame_of, speaks, IsPlace, count, positions}
use Rattle.data_warnings.proofs.FirstLaws.{IsFirst, first_kept}

-- the rule of the finding speaks at its place
pub record IsFound (b : Built) (f : Finding) : Type 0 where
  pub place : IsPlace b.facts (frame_of f.rule) f.place
  pub speaks : speaks b f.rule f.place ≡ true

first_of : (b : Built) (rule : Rule) (i j k n : ℕ) (members : List ℕ) (f : Finding) → n ≡ count b.facts (frame_of rule).last → filter (λ l. speaks b rule (place_at i j k l)) (range_with_len 0 n) ≡ members
    → i < count b.facts (frame_of rule).first → j < count b.facts (frame_of rule).second → k < count b.facts (frame_of rule).third
    → Has (found_in b rule i j k members) f → IsFound b f
first_of b rule i j k n [] f is_n is below_i below_j below_k has = absurd has
first_of b rule i j k n (l ∷ more) f is_n is below_i below_j below_k (inl same) =
    let first : IsFirst (λ l. speaks b rule (place_at i j k l)) n l = first_kept (λ l. speaks b rule (place_at i j k l)) 0 n n l more (omega arith) is in
    subst (IsFound b) same (record {
      place = record { first = below_i; second = below_j; third = below_k; last = subst (λ m. l < m) is_n first.below };
      speaks = first.passes;
    })
first_of b rule i j k n (l ∷ more) f is_n is below_i below_j below_k (inr has) = absurd has

pub is_found : (b : Built) (f : Finding) → Has (findings b) f → IsFound b f
is_found b f has =
    let of_rule = flat_map_parts (found b) rules_in_order f has in
    let rule = of_rule.0 in
    let of_one = flat_map_parts (found_of_one b rule) (positions b.facts (frame_of rule).first) f of_rule.2 in
    let i = of_one.0 in
    let of_two = flat_map_parts (found_of_two b rule i) (positions b.facts (frame_of rule).second) f of_one.2 in
    let j = of_two.0 in
    let of_three = flat_map_parts (found_at b rule i j) (positions b.facts (frame_of rule).third) f of_two.2 in
    let k = of_three.0 in
    let below_i = (range_parts 0 (count b.facts (frame_of rule).first) i of_one.1).1 in
    let below_j = (range_parts 0 (count b.facts (frame_of rule).second) j of_two.1).1 in
    let below_k = (range_parts 0 (count b.facts (frame_of rule).third) k of_three.1).1 in
    first_of b rule i j k (count b.facts (frame_of rule).last) (last_members b rule i j k) f refl refl (omega (arith, below_i)) (omega (arith, below_j)) (omega (arith, below_k)) of_three.2
