-- No year lies beyond the last, years are numbers from 1 on, and a life outlasts the model period where fewer years are left.
use Rattle.equation_parts.proofs.Common.{◌≡◌, ℕ, zero, suc, ◌+◌, ◌-◌, ◌<◌, ◌≤◌, inl, inr, Bool, true, List, [], ◌∷◌, length, map, refl, sym, ◌∙◌, subst, arith, All, Contains, cases_Bool, and_parts, leb-true, ltb-true, lt-ltb, length-map, nat_le, nat_lt, ◌&&◌, Data, AreSets, members, years, first_year, last_year, year, number_of_year, IsYear, life_of}
use Rattle.std.specs.Fmt.{decimal}
use Rattle.std.specs.Str.{bytes_eq}
use Rattle.model_sets.specs.Years.{is_year, number_of}
use Rattle.model_sets.proofs.EndLaws.{least_is, greatest_is}
use Rattle.named_equations.specs.Salvage.{outlasts}

-- ---- the first and the last year

as_numbers : (d : Data) (y : ℕ) → IsYear d y → y < length (years d.sets)
as_numbers d y h = subst (λ n. y < n) (sym (length-map (members d.sets year) number_of)) h

some_year : (d : Data) (y : ℕ) → IsYear d y → 0 < length (years d.sets)
some_year d y h = let below = as_numbers d y h in omega (arith, below)

pub within-last : (d : Data) (y : ℕ) → IsYear d y → number_of_year d y ≤ last_year d.sets
within-last d y h = (greatest_is (years d.sets) (some_year d y h)).1 y 0 (as_numbers d y h)

year-from : (name : List ℕ) → is_year name ≡ true → 1 ≤ number_of name
year-from name h =
    let text : Bool = bytes_eq name (decimal (number_of name)) in
    let outer = and_parts (text && nat_le 1 (number_of name)) (nat_le (number_of name) 9999) h in
    let inner = and_parts text (nat_le 1 (number_of name)) outer.0 in leb-true 1 (number_of name) inner.1

-- a number among the years is at least 1
years-from : (names : List (List ℕ)) (n : ℕ) → All (λ name. is_year name ≡ true) names → Contains (map number_of names) n → 1 ≤ n
years-from [] n all (k, below, is) = absurd (omega (arith, below))
years-from (name ∷ names) n all (zero, below, is) = subst (λ m. 1 ≤ m) is (year-from name (all 0 [] (omega arith)))
years-from (name ∷ names) n all (suc k, below, is) = years-from names n (λ j other less. all (suc j) other (omega (arith, less))) (k, omega (arith, below), is)

pub first-from : (d : Data) → AreSets d.sets → IsYear d 0 → 1 ≤ first_year d.sets
first-from d sets some =
    let rules = sets.rules year (omega arith, omega arith) in years-from (members d.sets year) (first_year d.sets) (rules.years refl) (least_is (years d.sets) (some_year d 0 some)).0

-- ---- lives

-- fewer years are left than the life has exactly where it ends after the last year
fewer-left : (last y life : ℕ) → y ≤ last → nat_lt (last - y + 1) life ≡ nat_lt (last + 1) (y + life)
fewer-left last y life within =
    elim (cases_Bool (nat_lt (last + 1) (y + life))) [
      | inl e ↦
          let past : last + 1 < y + life = ltb-true (last + 1) (y + life) e in
          lt-ltb (last - y + 1) life (omega (arith, within, past)) ∙ sym e
      | inr e ↦
          elim (cases_Bool (nat_lt (last - y + 1) life)) [
            | inl f ↦
                let few : last - y + 1 < life = ltb-true (last - y + 1) life f in
                let past : nat_lt (last + 1) (y + life) ≡ true = lt-ltb (last + 1) (y + life) (omega (arith, within, few)) in f ∙ sym past
            | inr f ↦ f ∙ sym e
          ]
    ]

pub outlasts-coded : (d : Data) (r t y : ℕ) → IsYear d y → nat_lt (last_year d.sets - number_of_year d y + 1) (life_of d r t) ≡ outlasts d r t y
outlasts-coded d r t y h = fewer-left (last_year d.sets) (number_of_year d y) (life_of d r t) (within-last d y h)

-- what outlasts the model period has fewer years left than its life
pub left-of_life : (d : Data) (r t y : ℕ) → IsYear d y → outlasts d r t y ≡ true → last_year d.sets - number_of_year d y + 1 < life_of d r t
left-of_life d r t y h e = ltb-true (last_year d.sets - number_of_year d y + 1) (life_of d r t) (outlasts-coded d r t y h ∙ e)
