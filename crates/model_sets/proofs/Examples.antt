-- The definitions computed on worked examples, and on near misses.
use Rattle.model_sets.proofs.Common.{arith, ◌≡◌, ℕ, pos, List, [], ◌∷◌, true, false, Some, None, refl, map, digits, AreSameData, Data, IsUsedParam, value_at, indices_of, indices_over, SetLists, no_members, members, with_member, index_of, first_refusal, first_empty, years, first_year, last_year, KeepsRules, IsDistinct, set_word, limit_of, IsYear, is_year, least, greatest}
use Rattle.std.specs.Prelude.{codes, ◌++◌}
use Rattle.model_sets.specs.Refusals.{IsDueTo}
use Rattle.model_sets.specs.declared.fault.SetFail.TheVariants.{Fault, Memory}

-- ---- years

year_2020 : IsYear (codes "2020") 2020
unfolding digits
year_2020 = (refl, omega arith, omega arith)

canonical : map is_year (codes "1" ∷ codes "2020" ∷ codes "9999" ∷ []) ≡ true ∷ true ∷ true ∷ []
unfolding digits
canonical = refl

-- a leading zero, no number at all, out of range, a sign, a point, a blank, letters
not_years : map is_year (codes "02020" ∷ codes "" ∷ codes "0" ∷ codes "10000" ∷ codes "-5" ∷ codes "+5" ∷ codes "2020.0" ∷ codes " 5" ∷ codes "Y1" ∷ []) ≡ false ∷ false ∷ false ∷ false ∷ false ∷ false ∷ false ∷ false ∷ false ∷ []
unfolding digits
not_years = refl

ends : least (2025 ∷ 2020 ∷ 2030 ∷ []) ∷ greatest (2025 ∷ 2020 ∷ 2030 ∷ []) ∷ [] ≡ 2020 ∷ 2030 ∷ []
ends = refl

-- ---- the sets

words : set_word 1 ∷ set_word 7 ∷ set_word 11 ∷ [] ≡ codes "REGION" ∷ codes "YEAR" ∷ codes "DAILYTIMEBRACKET" ∷ []
words = refl

most : limit_of 1 ∷ limit_of 2 ∷ limit_of 7 ∷ limit_of 8 ∷ [] ≡ 20 ∷ 500 ∷ 120 ∷ 1000 ∷ []
most = refl

-- the regions A and B, and the years 2030 and 2020
two_each : SetLists
two_each = with_member (with_member (with_member (with_member no_members 1 (codes "A")) 1 (codes "B")) 7 (codes "2030")) 7 (codes "2020")

kept : members two_each 1 ∷ members two_each 7 ∷ [] ≡ (codes "A" ∷ codes "B" ∷ []) ∷ (codes "2030" ∷ codes "2020" ∷ []) ∷ []
unfolding two_each
kept = refl

found : index_of (members two_each 1) (codes "A") ∷ index_of (members two_each 1) (codes "B") ∷ index_of (members two_each 1) (codes "C") ∷ [] ≡ Some 0 ∷ Some 1 ∷ None ∷ []
unfolding two_each
found = refl

numbers : years two_each ≡ 2030 ∷ 2020 ∷ []
unfolding two_each
numbers = refl

span : first_year two_each ∷ last_year two_each ∷ [] ≡ 2020 ∷ 2030 ∷ []
unfolding two_each
span = refl

taken : first_refusal two_each 1 (codes "C") ∷ first_refusal two_each 7 (codes "2021") ∷ first_refusal two_each 1 (codes "02020") ∷ [] ≡ None ∷ None ∷ None ∷ []
unfolding two_each digits
taken = refl

refused : first_refusal two_each 1 (codes "A") ∷ first_refusal two_each 7 (codes "2020") ∷ first_refusal two_each 7 (codes "02020") ∷ [] ≡ Some 1 ∷ Some 1 ∷ Some 3 ∷ []
unfolding two_each digits
refused = refl

-- ten names of one letter
ten : List (List ℕ)
ten = map (λ c. c ∷ []) (codes "ABCDEFGHIJ")

-- twenty names
twenty : List (List ℕ)
twenty = ten ++ map (λ c. c ∷ []) (codes "KLMNOPQRST")

-- the 20th region is taken and the 21st refused, unless it is refused for standing twice
full : (first_refusal (twenty ∷ []) 1 (codes "U")) ∷ (first_refusal (twenty ∷ []) 1 (codes "A")) ∷ (first_refusal ((ten ++ map (λ c. c ∷ []) (codes "KLMNOPQRS")) ∷ []) 1 (codes "T")) ∷ [] ≡ Some 4 ∷ Some 1 ∷ None ∷ []
unfolding twenty ten
full = refl

-- EMISSION may be empty
empty : first_empty no_members ∷ first_empty two_each ∷ [] ≡ Some 1 ∷ Some 2 ∷ []
unfolding two_each
empty = refl

one : List (List ℕ)
one = codes "X" ∷ []

none_empty : (first_empty (one ∷ one ∷ one ∷ [] ∷ one ∷ one ∷ one ∷ [])) ∷ (first_empty (one ∷ one ∷ one ∷ one ∷ one ∷ one ∷ [] ∷ [])) ∷ (first_empty (one ∷ one ∷ one ∷ [] ∷ [] ∷ [] ∷ [] ∷ [])) ∷ [] ≡ None ∷ Some 7 ∷ Some 5 ∷ []
unfolding one
none_empty = refl

-- a rule that refuses is the answer's cause, with the number of the set; no memory only where none refuses
due : IsDueTo (Some 3) 7 (Fault (record { no = 3; set = 7 }))
due = (refl, refl)

no_memory : IsDueTo None 7 Memory
no_memory = refl

other_set : IsDueTo (Some 3) 7 (Fault (record { no = 3; set = 1 })) → ⊥
other_set cause = let e : ◌≡◌ {A = ℕ} 1 7 = cause.1 in omega arith

not_due : IsDueTo None 7 (Fault (record { no = 3; set = 7 })) → ⊥
not_due cause = absurd cc

no_excuse : IsDueTo (Some 3) 7 Memory → ⊥
no_excuse cause = absurd cc

rules_kept : KeepsRules 1 (codes "A" ∷ codes "B" ∷ [])
unfolding IsDistinct
rules_kept = record { distinct = ((refl, tt), (tt, tt)); within = omega arith; years = λ same. absurd (let e : 1 ≡ 7 = same in omega arith) }

doubled : KeepsRules 1 (codes "A" ∷ codes "A" ∷ []) → ⊥
unfolding IsDistinct
doubled keeps = let e : true ≡ false = keeps.distinct.0.0 in absurd cc

no_year_there : KeepsRules 7 (codes "02020" ∷ []) → ⊥
unfolding digits
no_year_there keeps = let e : false ≡ true = keeps.years refl 0 [] (omega arith) in absurd cc

-- ---- data

-- ReserveMargin (29) is 1.2 in region A and year 2020, else 1; DiscountRate (2) is 0.05 in region B, with no default
small : Data
small = record {
  sets = two_each;
  given = record { param = 29; index = codes "A" ∷ codes "2020" ∷ []; value = pos 1200000000 } ∷ record { param = 2; index = codes "B" ∷ []; value = pos 50000000 } ∷ [];
  defaults = record { param = 29; value = pos 1000000000 } ∷ [];
  second = false;
}

-- the same with a statement for DiscountRateIdv (55), which gives 0.1 in region A for technology T
spread : Data
spread = record {
  sets = small.sets;
  given = record { param = 55; index = codes "A" ∷ codes "T" ∷ []; value = pos 100000000 } ∷ small.given;
  defaults = small.defaults;
  second = true;
}

-- the parameters from 1 to 38 are used in all data, those from 39 to 54 in none
always : IsUsedParam small 1 × IsUsedParam spread 1 × IsUsedParam small 38 × IsUsedParam spread 38
unfolding small spread
always = (((omega arith, omega arith), refl), ((omega arith, omega arith), refl), ((omega arith, omega arith), refl), ((omega arith, omega arith), refl))

never : IsUsedParam spread 39 → ⊥
never used = let e : false ≡ true = used.1 in absurd cc

-- DiscountRateIdv is used where the text has a statement for it
where_stated : IsUsedParam spread 55
unfolding spread
where_stated = ((omega arith, omega arith), refl)

not_stated : IsUsedParam small 55 → ⊥
unfolding small
not_stated used = let e : false ≡ true = used.1 in absurd cc

no_number : IsUsedParam spread 56 → ⊥
no_number used = omega (arith, used.0.1)

rate : value_at spread 55 (codes "A" ∷ codes "T" ∷ []) ∷ value_at spread 29 (codes "A" ∷ codes "2020" ∷ []) ∷ [] ≡ Some (pos 100000000) ∷ Some (pos 1200000000) ∷ []
unfolding spread small
rate = refl

-- data that differ in whether they have the statement aren't the same, though the values of all parameters are
other_use : AreSameData small (record { sets = small.sets; given = small.given; defaults = small.defaults; second = true }) → ⊥
unfolding small
other_use same = let e : false ≡ true = same.second in absurd cc

given : (value_at small 29 (codes "A" ∷ codes "2020" ∷ [])) ∷ (value_at small 2 (codes "B" ∷ [])) ∷ [] ≡ Some (pos 1200000000) ∷ Some (pos 50000000) ∷ []
unfolding small
given = refl

-- another year, the names in the other order
by_default : (value_at small 29 (codes "A" ∷ codes "2030" ∷ [])) ∷ (value_at small 29 (codes "2020" ∷ codes "A" ∷ [])) ∷ [] ≡ Some (pos 1000000000) ∷ Some (pos 1000000000) ∷ []
unfolding small
by_default = refl

-- no default: none, but for CapacityOfOneTechnologyUnit
without : (value_at small 2 (codes "A" ∷ [])) ∷ (value_at small 3 (codes "A" ∷ [])) ∷ (value_at small 18 (codes "A" ∷ codes "T" ∷ codes "2020" ∷ [])) ∷ [] ≡ None ∷ None ∷ Some (pos 0) ∷ []
unfolding small
without = refl

in_order : indices_of two_each 29 ≡ (codes "A" ∷ codes "2030" ∷ []) ∷ (codes "A" ∷ codes "2020" ∷ []) ∷ (codes "B" ∷ codes "2030" ∷ []) ∷ (codes "B" ∷ codes "2020" ∷ []) ∷ []
unfolding two_each
in_order = refl

-- a subscript over an empty set leaves no index, and no subscripts leave one
no_index : indices_of two_each 1 ∷ indices_over two_each [] ∷ [] ≡ [] ∷ ([] ∷ []) ∷ []
unfolding two_each
no_index = refl
