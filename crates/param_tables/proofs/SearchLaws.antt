-- Parts of lists of places that ascend, and the blocks in which their places lie.
use Rattle.param_tables.proofs.Common.{◌≡◌, ℕ, ◌+◌, ◌-◌, ◌*◌, ◌/◌, ◌%◌, ◌<◌, ◌≤◌, Bool, true, false, cond, List, nat_eq, length, map, get_or, refl, sym, ap, ◌∙◌, subst, inl, inr, arith, Contains, between, dedup, IsSorted, IsStrictlyIncreasing, is_lt, nat_cmp, Less, Equal, Greater, cases_lt, le-ltb, get_or-map, get_or_default, length-map, Contains-dedup_nat, Contains-from_dedup, IsStrictlyIncreasing-dedup, AreBlocks, IsPartBetween}
use Rattle.std.proofs.lemmas.List.Edits.{get_or-between, length-between}
use Rattle.std.proofs.lemmas.Nat.{le-div}
use Rattle.std.proofs.Math.Nat.{div-mul-le_self}
use Rattle.param_tables.proofs.AscendingLaws.{contains_from_map, contains_map}
use Rattle.param_tables.proofs.EntryLaws.{rising_all}
use Rattle.param_tables.proofs.IndexLaws.{IsPart, parts}
use Rattle.param_tables.proofs.RatioPlaceLaws.{below_blocks, block_back}

-- ---- the part between two places

module _ (places : List ℕ) (start end first last : ℕ) where
  -- what the counts of the places before the start and before the end say
  pub record AreCounts : Type 0 where
    pub first_within : first ≤ length places
    pub last_within : last ≤ length places
    pub before_first : (k : ℕ) → k < first → get_or places k 0 < start
    pub from_first : (k : ℕ) → first ≤ k → k < length places → start ≤ get_or places k 0
    pub before_last : (k : ℕ) → k < last → get_or places k 0 < end
    pub from_last : (k : ℕ) → last ≤ k → k < length places → end ≤ get_or places k 0

  module _ (counts : AreCounts) where
    pub counts_ordered : start ≤ end → first ≤ last
    counts_ordered order = elim (cases_lt last first) [
      | inl less ↦
          let within = counts.first_within in
          let low : get_or places last 0 < start = counts.before_first last less in
          let high : end ≤ get_or places last 0 = counts.from_last last (omega arith) (omega arith) in
          absurd (omega arith)
      | inr not_less ↦ not_less
    ]

    part_at : (k d : ℕ) → first + k < last → get_or (between first last places) k d ≡ get_or places (first + k) d
    part_at k d below = get_or-between places first last k d below

    part_long : length (between first last places) ≡ last - first
    part_long = length-between places first last counts.last_within

    pub part_of : IsStrictlyIncreasing places → start ≤ end → IsPartBetween places start end (between first last places)
    part_of rising order = record { rising = part_rising; inside = inside; all = all }
      where
        part_rising : IsStrictlyIncreasing (between first last places)
        part_rising k below =
            let within = counts.last_within in
            let here : get_or (between first last places) k 0 ≡ get_or places (first + k) 0 = part_at k 0 (omega (arith, part_long)) in
            let next : get_or (between first last places) (k + 1) 0 ≡ get_or places (first + (k + 1)) 0 = part_at (k + 1) 0 (omega (arith, part_long)) in
            let step : get_or places (first + k) 0 < get_or places (first + k + 1) 0 = rising (first + k) (omega (arith, part_long)) in
            let same : get_or places (first + (k + 1)) 0 ≡ get_or places (first + k + 1) 0 = ap (λ n. get_or places n 0) (omega arith) in
            omega arith

        inside : (place : ℕ) → Contains (between first last places) place → Contains places place × (start ≤ place) × (place < end)
        inside place has =
            let within = counts.last_within in
            let k = has.0 in
            let short : first + k < last = let below = has.1 in omega (arith, part_long) in
            let at : get_or places (first + k) place ≡ place = sym (part_at k place short) ∙ has.2 in
            let value : get_or places (first + k) 0 ≡ place = get_or_default places (first + k) 0 place (omega arith) ∙ at in
            let low : start ≤ get_or places (first + k) 0 = counts.from_first (first + k) (omega arith) (omega arith) in
            let high : get_or places (first + k) 0 < end = counts.before_last (first + k) short in
            ((first + k, omega arith, at), omega arith, omega arith)

        all : (place : ℕ) → Contains places place → start ≤ place → place < end → Contains (between first last places) place
        all place has low high =
            let k = has.0 in
            let below : k < length places = has.1 in
            let value : get_or places k 0 ≡ place = get_or_default places k 0 place below ∙ has.2 in
            let after : first ≤ k = elim (cases_lt k first) [
              | inl less ↦ let h = counts.before_first k less in absurd (omega arith)
              | inr not_less ↦ not_less
            ] in
            let before : k < last = elim (cases_lt k last) [
              | inl less ↦ less
              | inr not_less ↦ let h = counts.from_last k not_less below in absurd (omega arith)
            ] in
            let there : first + (k - first) ≡ k = omega arith in
            (k - first, omega (arith, part_long), part_at (k - first) place (omega arith) ∙ ap (λ n. get_or places n place) there ∙ has.2)

-- ---- blocks

quotients_rise : (start width p q : ℕ) → 0 < width → p ≤ q → (p - start) / width ≤ (q - start) / width
quotients_rise start width p q some order =
    let a : (p - start) / width * width ≤ p - start = div-mul-le_self (p - start) width in
    le-div ((p - start) / width) (q - start) width some (omega arith)

not_less_from : (a b : ℕ) → b ≤ a → is_lt (nat_cmp a b) ≡ false
not_less_from a b order = ap (λ t. is_lt (cond t Less (cond (nat_eq a b) Equal Greater))) (le-ltb a b order) ∙ of_cond (nat_eq a b)
  where
    of_cond : (t : Bool) → is_lt (cond t Equal Greater) ≡ false
    of_cond true = refl
    of_cond false = refl

module _ (places part : List ℕ) (start width count : ℕ) (some : 0 < width) (between_them : IsPartBetween places start (start + count * width) part) where
  quotient : ℕ → ℕ
  quotient p = (p - start) / width

  sorted_quotients : IsSorted nat_cmp (map quotient part)
  unfolding quotient
  sorted_quotients k d low below =
      let long : length (map quotient part) ≡ length part = length-map part quotient in
      let here : get_or (map quotient part) k d ≡ (get_or part k 0 - start) / width = get_or-map quotient part k 0 d (omega arith) in
      let next : get_or (map quotient part) (k + 1) d ≡ (get_or part (k + 1) 0 - start) / width = get_or-map quotient part (k + 1) 0 d (omega arith) in
      let order : get_or part k 0 ≤ get_or part (k + 1) 0 = rising_all part between_them.rising k (k + 1) (omega arith) (omega arith) in
      let rise = quotients_rise start width (get_or part k 0) (get_or part (k + 1) 0) some order in
      not_less_from (get_or (map quotient part) (k + 1) d) (get_or (map quotient part) k d) (omega arith)

  pub blocks_from : (pushed final : List ℕ) → pushed ≡ map (λ p. (p - start) / width) part → final ≡ dedup nat_eq pushed → AreBlocks places start width count final
  unfolding quotient
  blocks_from pushed final is left = record { rising = rising; inside = inside; all = all }
    where
      whole : final ≡ dedup nat_eq (map quotient part)
      whole = left ∙ ap (dedup nat_eq) is

      rising : IsStrictlyIncreasing final
      rising = subst IsStrictlyIncreasing (sym whole) (IsStrictlyIncreasing-dedup (map quotient part) sorted_quotients)

      inside : (block : ℕ) → Contains final block → (block < count) × ((i : ℕ) × (i < width) × Contains places (start + (block * width + i)))
      inside block has =
          let kept : Contains (dedup nat_eq (map quotient part)) block = subst (λ xs. Contains xs block) whole has in
          let found = contains_from_map quotient part block (Contains-from_dedup nat_eq (map quotient part) block kept) in
          let p = found.0 in
          let in_part = between_them.inside p found.1 in
          let low : start ≤ p = in_part.1 in
          let high : p < start + count * width = in_part.2 in
          let cut : IsPart count width (p - start) = parts count width (p - start) (omega arith) in
          let here : (p - start) / width ≡ block = found.2 in
          let whole_there : start + ((p - start) / width * width + (p - start) % width) ≡ p = ap (λ n. start + n) (sym cut.whole) ∙ omega arith in
          let at : p ≡ start + (block * width + (p - start) % width) = sym whole_there ∙ ap (λ b. start + (b * width + (p - start) % width)) here in
          (subst (λ b. b < count) here cut.block, ((p - start) % width, cut.place, subst (Contains places) at in_part.0))

      all : (block i : ℕ) → block < count → i < width → Contains places (start + (block * width + i)) → Contains final block
      all block i below inside_block has =
          let p = start + (block * width + i) in
          let high : block * width + i < count * width = below_blocks count width block i below inside_block in
          let in_part : Contains part p = between_them.all p has (omega arith) (omega arith) in
          let back = block_back count width block i below inside_block in
          let rest : p - start ≡ block * width + i = omega arith in
          let here : quotient p ≡ block = ap (λ n. n / width) rest ∙ back.block in
          let mapped : Contains (map quotient part) block = subst (Contains (map quotient part)) here (contains_map quotient part p in_part) in
          subst (λ xs. Contains xs block) (sym whole) (Contains-dedup_nat (map quotient part) block mapped)
