-- How lines of findings end: those after which plans may exist don't end in `: no plan`.
use Rattle.std.proofs.Common.{◌≡◌, ℕ, ℤ, ◌+◌, ◌-◌, ◌*◌, Bool, true, false, ◌&&◌, List, [], ◌∷◌, ◌++◌, length, nat_eq, get_or, fold, reverse, refl, sym, ap, ◌∙◌, subst, inl, inr, ◌⊎◌, if◌then◌else◌, arith, rules}
use Rattle.data_warnings.proofs.Common.{codes, decimal, list_all, AreSets, SetLists, members, year, Finding, Place, Rule, YearSplitSum, YearGap, DiscountRate, UnprofiledDemand, ProfileSum, UnmadeDemand, StarvedTechnology, Disabled, Crossed, CrossedPeriod, Unreachable, ShortLives, CoarseRates, LargeFactor, LargeAvailability, LargeTarget, SmallMargin, NegativeCost, Outlier, OneWayRoute, EqualRoute, UnequalRoute, ZeroLimits, ZeroEmissions, HighLimits, IdleLimit, UnusedFuel, IdleTechnology, Rounded, decimal_text, frame_of, above_line, both_ways_line, both_ways_text, default_line, default_text, for_first, gap_line, gap_text, line, loose_line, member_line, members_line, members_text, more_members, more_years, names_text, nearest_text, number_text, outlier_line, pair_line, pair_text, plain_line, rounded_line, route_line, route_remark, route_start, said, starved_line, starved_text, subject_line, subject_text, sum_line, years_text, EndsIn, excludes_plans, no_plan_ending, name}
use Rattle.std.specs.Char.{is_ascii_digit}
use Rattle.std.proofs.lemmas.Bool.{cases_lt, eqb-true}
use Rattle.std.proofs.lemmas.Fmt.{digits_decimal}
use Rattle.std.proofs.lemmas.Str.Parse.{IsNumeralModel, numerals_by_fold}
use Rattle.std.proofs.lemmas.List.{append-nil, get_or_past, reverse-append}
use Rattle.model_sets.specs.Years.{is_year, number_of}
use Rattle.model_sets.proofs.YearLaws.{year_is}
use Rattle.data_warnings.specs.declared.rules.Cost.TheVariants as cost
use Rattle.data_warnings.specs.Neighbours.{nearest}

-- ---- the last byte, or the last but one, isn't that of `plan`

pub record LastIs (text : List ℕ) : Type 0 where
  pub last : ℕ
  pub rest : List ℕ
  pub is : reverse text ≡ last ∷ rest
  pub other : nat_eq last 110 ≡ false

pub record LastTwoAre (text : List ℕ) : Type 0 where
  pub last : ℕ
  pub before : ℕ
  pub rest : List ℕ
  pub is : reverse text ≡ last ∷ before ∷ rest
  pub other : nat_eq before 97 ≡ false

abbrev pub Apart : List ℕ → Type 0
Apart text = LastIs text ⊎ LastTwoAre text

after : (first text : List ℕ) → Apart text → Apart (first ++ text)
after first text (inl at) = inl (record { last = at.last; rest = at.rest ++ reverse first; is = reverse-append first text ∙ ap (λ end. end ++ reverse first) at.is; other = at.other })
after first text (inr at) = inr (record { last = at.last; before = at.before; rest = at.rest ++ reverse first; is = reverse-append first text ∙ ap (λ end. end ++ reverse first) at.is; other = at.other })

-- a byte that isn't `n` at the end
ends : (first : List ℕ) (last : ℕ) → nat_eq last 110 ≡ false → Apart (first ++ last ∷ [])
ends first last other = inl (record { last = last; rest = reverse first; is = reverse-append first (last ∷ []); other = other })

-- ---- a text that ends in `: no plan` is none of these

last-same : (a b : ℕ) (xs ys : List ℕ) → a ∷ xs ≡ b ∷ ys → a ≡ b
last-same a b xs ys e = ap (λ text. get_or text 0 0) e

rest-same : (a b : ℕ) (xs ys : List ℕ) → a ∷ xs ≡ b ∷ ys → xs ≡ ys
rest-same a b xs ys e = ap later e
  where
    later : List ℕ → List ℕ
    later [] = []
    later (x ∷ more) = more

not-both : (b : Bool) → b ≡ true → b ≡ false → ⊥
not-both true is not = cc not
not-both false is not = cc is

apart-no_plan : (text : List ℕ) → Apart text → EndsIn no_plan_ending (text ++ 10 ∷ []) → ⊥
apart-no_plan text apart ending = go apart
  where
    turned : reverse (text ++ 10 ∷ []) ≡ 10 ∷ 110 ∷ 97 ∷ (reverse (codes ": no pl") ++ reverse ending.before)
    turned = ap reverse ending.is ∙ reverse-append ending.before no_plan_ending

    here : reverse text ≡ 110 ∷ 97 ∷ (reverse (codes ": no pl") ++ reverse ending.before)
    here = rest-same 10 10 (reverse text) (110 ∷ 97 ∷ (reverse (codes ": no pl") ++ reverse ending.before)) (sym (reverse-append text (10 ∷ [])) ∙ turned)

    go : Apart text → ⊥
    go (inl at) = not-both (nat_eq at.last 110) (ap (λ n. nat_eq n 110) (last-same at.last 110 at.rest (97 ∷ (reverse (codes ": no pl") ++ reverse ending.before)) (sym at.is ∙ here))) at.other
    go (inr at) =
        let later = rest-same at.last 110 (at.before ∷ at.rest) (97 ∷ (reverse (codes ": no pl") ++ reverse ending.before)) (sym at.is ∙ here) in
        not-both (nat_eq at.before 97) (ap (λ n. nat_eq n 97) (last-same at.before 97 at.rest (reverse (codes ": no pl") ++ reverse ending.before) later)) at.other

-- ---- names of years

digits_read : IsNumeralModel (λ ds. list_all is_ascii_digit ds ≡ true) number_of
digits_read = numerals_by_fold _ (search rules) (λ n bytes. fold (λ m byte. m * 10 + (byte - 48)) n bytes) (search rules)

digits_of_year : (text : List ℕ) → is_year text ≡ true → list_all is_ascii_digit text ≡ true
digits_of_year text told =
    let parts = year_is text told in
    ap (list_all is_ascii_digit) parts.0 ∙ digits_decimal digits_read (number_of text) (let h = parts.2 in omega arith)

digit-apart : (c : ℕ) → is_ascii_digit c ≡ true → nat_eq c 110 ≡ false
digit-apart c digit = by (nat_eq c 110) refl
  where
    by : (b : Bool) → nat_eq c 110 ≡ b → b ≡ false
    by false e = refl
    by true e = absurd (not-both (is_ascii_digit c) digit (ap is_ascii_digit (eqb-true c 110 e)))

and-first : (a b : Bool) → (a && b) ≡ true → a ≡ true
and-first true b e = refl
and-first false b e = e

and-second : (a b : Bool) → (a && b) ≡ true → b ≡ true
and-second true b e = e
and-second false b e = absurd (cc e)

digits-apart : (x : ℕ) (xs : List ℕ) → list_all is_ascii_digit (x ∷ xs) ≡ true → Apart (x ∷ xs)
digits-apart x [] all = ends [] x (digit-apart x (and-first (is_ascii_digit x) true all))
digits-apart x (y ∷ ys) all = after (x ∷ []) (y ∷ ys) (digits-apart y ys (and-second (is_ascii_digit x) (list_all is_ascii_digit (y ∷ ys)) all))

-- after ` in `, a name of digits or none
blank-apart : (first text : List ℕ) → list_all is_ascii_digit text ≡ true → Apart (first ++ codes " in " ++ text)
blank-apart first [] all = subst Apart (sym (append-nil (first ++ codes " in "))) (after first (codes " in ") (ends (codes " in") 32 refl))
blank-apart first (x ∷ xs) all = after (first ++ codes " in ") (x ∷ xs) (digits-apart x xs all)

module _ (sets : SetLists) (are : AreSets sets) where
  year-digits : (i : ℕ) → list_all is_ascii_digit (name sets year i) ≡ true
  year-digits i = elim (cases_lt i (length (members sets year))) [
    | inl inside ↦ digits_of_year (name sets year i) ((are.rules year (omega arith, omega arith)).years refl i [] inside)
    | inr past ↦ ap (list_all is_ascii_digit) (get_or_past (members sets year) i [] past)
  ]

  year-apart : (first : List ℕ) (i : ℕ) → Apart (first ++ codes " in " ++ name sets year i)
  year-apart first i = blank-apart first (name sets year i) (year-digits i)

  more-apart : (i n : ℕ) → Apart (codes " in " ++ name sets year i ++ more_years n)
  unfolding more_years
  more-apart i n = by (nat_eq n 0) (nat_eq n 1)
    where
      by : (none one : Bool) → Apart (codes " in " ++ name sets year i ++ (if none then [] else codes " and " ++ decimal n ++ (if one then codes " more year" else codes " more years")))
      by true one = subst Apart (sym (append-nil (codes " in " ++ name sets year i))) (year-apart [] i)
      by false true = after (codes " in " ++ name sets year i) (codes " and " ++ decimal n ++ codes " more year") (after (codes " and " ++ decimal n) (codes " more year") (ends (codes " more yea") 114 refl))
      by false false = after (codes " in " ++ name sets year i) (codes " and " ++ decimal n ++ codes " more years") (after (codes " and " ++ decimal n) (codes " more years") (ends (codes " more year") 115 refl))

  -- ---- lines

  module _ (p : Place) (more : ℕ) (n o : ℤ) where
    abbrev pub told : Rule → Finding
    told rule = record { rule = rule; place = p; more = more; number = n; other = o }

    years_apart : (rule : Rule) → (frame_of rule).last ≡ year → Apart (years_text sets (told rule))
    unfolding years_text
    years_apart rule last = subst (λ k. Apart (if nat_eq k 0 then [] else codes " in " ++ name sets year p.last ++ more_years more)) (sym last) (more-apart p.last more)

    -- a text, and the years
    then_years : (first : List ℕ) (rule : Rule) → (frame_of rule).last ≡ year → Apart (first ++ years_text sets (told rule))
    then_years first rule last = after first (years_text sets (told rule)) (years_apart rule last)

    pub said-apart : (rule : Rule) → excludes_plans rule ≡ false → Apart (said sets (told rule) rule)
    unfolding sum_line gap_line plain_line starved_line above_line loose_line outlier_line nearest_text route_line route_remark both_ways_line members_line default_line subject_line pair_line member_line rounded_line
    said-apart YearSplitSum e = then_years (subject_text sets (told YearSplitSum) ++ codes " sums to " ++ decimal_text n) YearSplitSum refl
    said-apart YearGap e = after (gap_text sets (told YearGap)) (codes ": what lies between the years costs and emits nothing") (ends (codes ": what lies between the years costs and emits nothin") 103 refl)
    said-apart DiscountRate e = after (number_text sets (told DiscountRate) ++ years_text sets (told DiscountRate)) (codes ": 0.05 is 5 per cent") (ends (codes ": 0.05 is 5 per cen") 116 refl)
    said-apart UnprofiledDemand e = after (number_text sets (told UnprofiledDemand) ++ years_text sets (told UnprofiledDemand)) (codes ": its profile is 0, so none of it is asked for") (ends (codes ": its profile is 0, so none of it is asked fo") 114 refl)
    said-apart ProfileSum e = then_years (subject_text sets (told ProfileSum) ++ codes " sums to " ++ decimal_text n) ProfileSum refl
    said-apart UnmadeDemand e = absurd (cc e)
    said-apart StarvedTechnology e = then_years (starved_text sets (told StarvedTechnology)) StarvedTechnology refl
    said-apart (Disabled enabler) e = after (number_text sets (told (Disabled enabler)) ++ years_text sets (told (Disabled enabler))) (codes ": it makes something and can't run") (inr (record { last = 110; before = 117; rest = reverse (codes ": it makes something and can't r"); is = refl; other = refl }))
    said-apart (Crossed pair) e = absurd (cc e)
    said-apart CrossedPeriod e = absurd (cc e)
    said-apart Unreachable e = absurd (cc e)
    said-apart ShortLives e = after (default_text (told ShortLives) ++ for_first sets (told ShortLives) ++ more_members more) (codes ": each is bought anew each year") (ends (codes ": each is bought anew each yea") 114 refl)
    said-apart CoarseRates e = after (members_text sets (told CoarseRates)) (codes ": investments are more than a millionth off; use --places 9") (ends (codes ": investments are more than a millionth off; use --places ") 57 refl)
    said-apart LargeFactor e = then_years (subject_text sets (told LargeFactor) ++ codes " is above 1") LargeFactor refl
    said-apart LargeAvailability e = subst Apart (sym (append-nil (number_text sets (told LargeAvailability) ++ years_text sets (told LargeAvailability)))) (then_years (number_text sets (told LargeAvailability)) LargeAvailability refl)
    said-apart LargeTarget e = after (number_text sets (told LargeTarget) ++ years_text sets (told LargeTarget)) (codes ": 0.2 is 20 per cent") (ends (codes ": 0.2 is 20 per cen") 116 refl)
    said-apart SmallMargin e = after (number_text sets (told SmallMargin) ++ years_text sets (told SmallMargin)) (codes ": 1.15 asks for 15 per cent more than is made") (ends (codes ": 1.15 asks for 15 per cent more than is mad") 101 refl)
    said-apart (NegativeCost cost.Capital) e = then_years (number_text sets (told (NegativeCost cost.Capital)) ++ codes " and no limit holds it") (NegativeCost cost.Capital) refl
    said-apart (NegativeCost cost.Fixed) e = then_years (number_text sets (told (NegativeCost cost.Fixed)) ++ codes " and no limit holds it") (NegativeCost cost.Fixed) refl
    said-apart (NegativeCost cost.Variable) e = then_years (number_text sets (told (NegativeCost cost.Variable)) ++ codes " and no limit holds it") (NegativeCost cost.Variable) refl
    said-apart (Outlier series) e = after (number_text sets (told (Outlier series)) ++ years_text sets (told (Outlier series))) (codes " beside " ++ decimal_text o ++ codes " in " ++ name sets year (nearest p.last)) (year-apart (codes " beside " ++ decimal_text o) (nearest p.last))
    said-apart OneWayRoute e =
        let remark = codes ": what " ++ name sets (frame_of OneWayRoute).first p.first ++ codes " gets, " ++ name sets (frame_of OneWayRoute).second p.second in
        after (route_start sets (told OneWayRoute) ++ years_text sets (told OneWayRoute)) (remark ++ codes " doesn't lose") (after remark (codes " doesn't lose") (ends (codes " doesn't los") 101 refl))
    said-apart EqualRoute e = after (number_text sets (told EqualRoute) ++ years_text sets (told EqualRoute)) (codes ": equal both ways, it loses nothing; use a technology") (ends (codes ": equal both ways, it loses nothing; use a technolog") 121 refl)
    said-apart UnequalRoute e = after (both_ways_text sets (told UnequalRoute) ++ years_text sets (told UnequalRoute)) (codes ": one way makes energy, the other destroys it; use a technology") (ends (codes ": one way makes energy, the other destroys it; use a technolog") 121 refl)
    said-apart (ZeroLimits limit) e = after (default_text (told (ZeroLimits limit)) ++ for_first sets (told (ZeroLimits limit)) ++ more_members more) (codes ": 0 is a limit, -1 is none") (ends (codes ": 0 is a limit, -1 is non") 101 refl)
    said-apart (ZeroEmissions limit) e = after (default_text (told (ZeroEmissions limit)) ++ for_first sets (told (ZeroEmissions limit)) ++ more_members more) (codes ": 0 is a limit, -1 is none") (ends (codes ": 0 is a limit, -1 is non") 101 refl)
    said-apart (HighLimits ceiling) e = after (subject_text sets (told (HighLimits ceiling))) (codes " has values of 99999 and more: -1 is no limit, and quicker") (ends (codes " has values of 99999 and more: -1 is no limit, and quicke") 114 refl)
    said-apart IdleLimit e = after (pair_text sets (told IdleLimit)) (codes " has a limit and nothing emits it") (ends (codes " has a limit and nothing emits i") 116 refl)
    said-apart UnusedFuel e = after (pair_text sets (told UnusedFuel)) (codes " is made and nobody takes it") (ends (codes " is made and nobody takes i") 116 refl)
    said-apart IdleTechnology e = after (names_text sets (told IdleTechnology)) (codes " makes and takes nothing") (ends (codes " makes and takes nothin") 103 refl)
    said-apart Rounded e = after (decimal_text n) (codes " of the numbers had more than nine decimal places") (ends (codes " of the numbers had more than nine decimal place") 115 refl)

    line-apart : (rule : Rule) → excludes_plans rule ≡ false → EndsIn no_plan_ending (line sets (told rule)) → ⊥
    unfolding line
    line-apart rule e ending = apart-no_plan (codes "warning " ++ said sets (told rule) rule) (after (codes "warning ") (said sets (told rule) rule) (said-apart rule e)) ending

  -- a line that ends so is of a rule after whose findings no plan exists
  pub excluding : (f : Finding) → EndsIn no_plan_ending (line sets f) → excludes_plans f.rule ≡ true
  excluding f ending = by (excludes_plans f.rule) refl
    where
      by : (b : Bool) → excludes_plans f.rule ≡ b → b ≡ true
      by true e = refl
      by false e = absurd (line-apart f.place f.more f.number f.other f.rule e ending)
