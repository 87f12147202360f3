use Rattle.param_tables.proofs.Common.{◌≡◌, ℕ, ◌*◌, ◌^◌, ◌≤◌, length, get_or, take, refl, sym, ap, ◌∙◌, arith, take_all, take_more, indices_over, members}
use Rattle.param_tables.proofs.IndexLaws.{length-push}
use Rattle.param_tables.proofs.PlaceLaws.{most, most-zero, most-four, most-five, count_more, members-most}
use Rattle.param_tables.proofs.indices.index_count.Goals as goal

pub loop-set-init : goal.loop-set-init
loop-set-init c = record { count = refl; small = omega (arith, most-zero) }

small_product : (a b : ℕ) → a ≤ 10 ^ 12 → b ≤ 1000 → a * b ≤ 10 ^ 15
small_product a b first second =
    let x : a * b ≤ 10 ^ 12 * b = grind arith in
    omega arith

pub overflow_mul-count : goal.overflow_mul-count
overflow_mul-count c =
    let ks = c.args.subscripts.now in
    let i = c.loop-set.set-index in
    let k = get_or ks i 0 in
    let few : length (members c.args.sets.now k) ≤ 1000 = members-most c.args.sets.now k c.count.ensures.rules (c.requires.listed i 0 c.loop-set-test.true) in
    let low : most i ≤ 10 ^ 12 = most-four i (omega (arith, c.loop-set-test.true, c.requires.most)) in
    let product : c.loop-set.count * c.from-count.result ≤ 10 ^ 15 = small_product c.loop-set.count c.from-count.result (omega (arith, c.loop-set.invariant.small)) (omega (arith, c.from-count.ensures, c.count.ensures.count)) in
    omega arith

pub loop-set-preserved : goal.loop-set-preserved
loop-set-preserved c =
    let ks = c.args.subscripts.now in
    let i = c.loop-set.set-index in
    let k = get_or ks i 0 in
    let few : length (members c.args.sets.now k) ≤ 1000 = members-most c.args.sets.now k c.count.ensures.rules (c.requires.listed i 0 c.loop-set-test.true) in
    let more : c.from-count.result ≡ length (members c.args.sets.now k) = c.from-count.ensures ∙ c.count.ensures.count in
    record {
      count =
          ap (λ m. c.loop-set.count * m) more
          ∙ ap (λ m. m * length (members c.args.sets.now k)) c.loop-set.invariant.count
          ∙ sym (length-push c.args.sets.now (take i ks) k)
          ∙ ap (λ js. length (indices_over c.args.sets.now js)) (sym (take_more ks i 0 c.loop-set-test.true));
      small = count_more c.loop-set.count c.from-count.result i c.loop-set.invariant.small (omega arith);
    }

pub returns-clause-count : goal.returns-clause-count
returns-clause-count c = c.loop-set.invariant.count ∙ ap (λ js. length (indices_over c.args.sets.now js)) (take_all c.loop-set.set-index c.args.subscripts.now c.loop-set-test.false)

pub returns-clause-most : goal.returns-clause-most
returns-clause-most c = let low : most c.loop-set.set-index ≤ 10 ^ 15 = most-five c.loop-set.set-index (omega (arith, c.loop-set.auto.set-index-end, c.requires.most)) in omega (arith, c.loop-set.invariant.small)
