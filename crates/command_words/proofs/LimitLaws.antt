-- A list of limits keeps what its rules say.
use Rattle.command_words.proofs.Common.{◌≡◌, ℕ, ◌≤◌, ◌^◌, ℤ, pos, List, [], ◌∷◌, length, Option, Some, None, Result, Ok, Err, Bool, true, false, cond, ◌&&◌, refl, sym, ap, true≢false, arith, option_map, nat_le, subst, T, int_le, unsigned_abs, IfOk, IfSome, AllByRecursion, option_and_then, option_map_or, leb-true, decimal_of, AreLimits, IsLimit, all_of, between_commas, exact_limit, few_ascending, is_ascending, limit_of, limits_of, most_limits}
use Rattle.exact_num.specs.Range.{InRange}
use Rattle.scaled_decimals.specs.declared.reading.DecFault.{DecFault}
use Rattle.scaled_decimals.specs.declared.reading.DecFault.TheVariants.{NotNumber}
use Rattle.scaled_decimals.specs.NumberReading.{number_in}
unfoldable use Rattle.scaled_decimals.specs.NumberReading.{decimal_in}
use Rattle.scaled_decimals.specs.NumberText.{NumberText}
use Rattle.scaled_decimals.proofs.DecimalLemmas.{IfOk-bound}

true_is : (b : Bool) → b ≡ true → T b
true_is true e = tt
true_is false e = absurd (true≢false (sym e))

pub limit_reads : (text : List ℕ) (r : Result (ℤ × Bool) DecFault) → r ≡ decimal_in text → exact_limit r ≡ limit_of text
unfolding limit_of
limit_reads text r is = ap exact_limit is

exact_is : (r : Result (ℤ × Bool) DecFault) → IfOk r (λ v. unsigned_abs v.0 ≤ 10 ^ 24) → IfSome (exact_limit r) IsLimit
exact_is (Ok (value, false)) bound = go (int_le (pos 0) value) refl
  where
    go : (b : Bool) → int_le (pos 0) value ≡ b → IfSome (cond b (Some value) None) IsLimit
    go true least = (record { le = true_is (int_le (pos 0) value) least }, bound)
    go false least = tt
exact_is (Ok (value, true)) bound = tt
exact_is (Err fault) bound = tt

bounded : (read : Option NumberText) → IfOk (option_map_or decimal_of read (Err NotNumber)) (λ v. unsigned_abs v.0 ≤ 10 ^ 24)
bounded None = tt
bounded (Some p) = IfOk-bound p (decimal_of p) refl

limit_is : (text : List ℕ) → IfSome (limit_of text) IsLimit
unfolding limit_of decimal_in
limit_is text = exact_is (decimal_in text) (bounded (number_in text))

-- so it fits
pub limit_in_range : (text : List ℕ) (limit : ℤ) → limit_of text ≡ Some limit → InRange limit
limit_in_range text limit is = let kept : IsLimit limit = subst (λ o. IfSome o IsLimit) is (limit_is text) in omega (arith, kept.1)

all_are : (texts : List (List ℕ)) → IfSome (all_of limit_of texts) (AllByRecursion IsLimit)
unfolding all_of
all_are [] = tt
all_are (text ∷ texts) = go (limit_of text) (all_of limit_of texts) (limit_is text) (all_are texts)
  where
    go : (first : Option ℤ) (others : Option (List ℤ)) → IfSome first IsLimit → IfSome others (AllByRecursion IsLimit) → IfSome (option_and_then (λ x. option_map (λ xs. x ∷ xs) others) first) (AllByRecursion IsLimit)
    go None others is are = tt
    go (Some x) None is are = tt
    go (Some x) (Some xs) is are = (is, are)

pub are_limits : (word : List ℕ) → IfSome (limits_of word) AreLimits
are_limits word = go (all_of limit_of (between_commas word)) (all_are (between_commas word))
  where
    few : (limits : List ℤ) → AllByRecursion IsLimit limits → IfSome (few_ascending limits) AreLimits
    few limits within = by_tests (nat_le (length limits) most_limits) (is_ascending limits) refl refl
      where
        by_tests : (short rising : Bool) → nat_le (length limits) most_limits ≡ short → is_ascending limits ≡ rising → IfSome (cond (short && rising) (Some limits) None) AreLimits
        by_tests true true short rising = record { few = leb-true (length limits) most_limits short; ascending = rising; within = within }
        by_tests true false short rising = tt
        by_tests false rising short is = tt

    go : (read : Option (List ℤ)) → IfSome read (AllByRecursion IsLimit) → IfSome (option_and_then few_ascending read) AreLimits
    go None all = tt
    go (Some limits) all = few limits all
