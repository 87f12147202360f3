-- The factors, and what the combined row means.
use Rattle.row_core.proofs.Common.{◌≡◌, ℤ, pos, List, sym, ap, ap₂, ◌∙◌, subst, to_z, of_z, w128, int_div, ◌<ℤ◌, IfOk, IfOk-weaker, common, InRange, all_fit, value_of, back_in_range, Var, numbers_of, keys_of, ascends, var_cmp, number_at, form_of, row_factor, def_factor, IsScaled, SaysTheSameUnder, IsMade, IsCombined}
use Rattle.row_core.proofs.CombinedLaws.{row_fits, common_positive, row_factor_positive, made-says, made-IsScaled, combined-removed}
use Rattle.row_core.proofs.combining.combine.Goals as goal

abbrev read : ℤ → ℤ
read z = to_z w128 (of_z w128 z)

pub number_of-own-requires-clause-ascending : goal.number_of-own-requires-clause-ascending
number_of-own-requires-clause-ascending c = ap (λ (es : List (Var × ℤ)). ascends var_cmp (keys_of es)) c.deref.ensures.value ∙ c.args.definition.now.ascending

pub number_of-own-requires-clause-fits : goal.number_of-own-requires-clause-fits
number_of-own-requires-clause-fits c = ap (λ (es : List (Var × ℤ)). all_fit (numbers_of es)) c.deref.ensures.value ∙ row_fits c.args.definition.now

pub number_of-number-requires-clause-ascending : goal.number_of-number-requires-clause-ascending
number_of-number-requires-clause-ascending c = ap (λ (es : List (Var × ℤ)). ascends var_cmp (keys_of es)) c.deref-2.ensures.value ∙ c.args.row.now.ascending

pub number_of-number-requires-clause-fits : goal.number_of-number-requires-clause-fits
number_of-number-requires-clause-fits c = ap (λ (es : List (Var × ℤ)). all_fit (numbers_of es)) c.deref-2.ensures.value ∙ row_fits c.args.row.now

-- the divisor, and the factors by it
divisor_from : (own number divisor p q : ℤ) → InRange own → InRange number → InRange divisor → divisor ≡ common (read own) (read number) → own ≡ p → number ≡ q → read divisor ≡ common p q
divisor_from own number divisor p q h k l e f g = back_in_range divisor l ∙ e ∙ ap₂ common (back_in_range own h ∙ f) (back_in_range number k ∙ g)

factor_from : (part z divisor w d : ℤ) → InRange part → InRange z → part ≡ int_div (read z) (read divisor) → z ≡ w → read divisor ≡ d → read part ≡ int_div w d
factor_from part z divisor w d h k e f g = back_in_range part h ∙ e ∙ ap₂ int_div (back_in_range z k ∙ f) g

pub quotient-requires-clause-positive : goal.quotient-requires-clause-positive
quotient-requires-clause-positive c =
    let p : ℤ = number_at c.args.definition.now.entries.items c.args.variable in
    let q : ℤ = number_at c.args.row.now.entries.items c.args.variable in
    let own : c.number_of-own.result ≡ p = c.number_of-own.ensures.value ∙ ap (λ (es : List (Var × ℤ)). number_at es c.args.variable) c.deref.ensures.value in
    let number : c.number_of-number.result ≡ q = c.number_of-number.ensures.value ∙ ap (λ (es : List (Var × ℤ)). number_at es c.args.variable) c.deref-2.ensures.value in
    subst (λ z. pos 0 <ℤ z)
    (sym (divisor_from c.number_of-own.result c.number_of-number.result c.gcd-divisor.result p q c.number_of-own.ensures.range c.number_of-number.ensures.range c.gcd-divisor.ensures.range c.gcd-divisor.ensures.value own number))
    (common_positive p q c.requires.positive)

pub quotient-requires-2-clause-positive : goal.quotient-requires-2-clause-positive
quotient-requires-2-clause-positive c =
    let p : ℤ = number_at c.args.definition.now.entries.items c.args.variable in
    let q : ℤ = number_at c.args.row.now.entries.items c.args.variable in
    let own : c.number_of-own.result ≡ p = c.number_of-own.ensures.value ∙ ap (λ (es : List (Var × ℤ)). number_at es c.args.variable) c.deref.ensures.value in
    let number : c.number_of-number.result ≡ q = c.number_of-number.ensures.value ∙ ap (λ (es : List (Var × ℤ)). number_at es c.args.variable) c.deref-2.ensures.value in
    subst (λ z. pos 0 <ℤ z)
    (sym (divisor_from c.number_of-own.result c.number_of-number.result c.gcd-divisor.result p q c.number_of-own.ensures.range c.number_of-number.ensures.range c.gcd-divisor.ensures.range c.gcd-divisor.ensures.value own number))
    (common_positive p q c.requires.positive)

pub returns-clause-combined : goal.returns-clause-combined
returns-clause-combined c =
    let row = c.args.row.now in
    let def = c.args.definition.now in
    let p : ℤ = number_at def.entries.items c.args.variable in
    let q : ℤ = number_at row.entries.items c.args.variable in
    let own : c.number_of-own.result ≡ p = c.number_of-own.ensures.value ∙ ap (λ (es : List (Var × ℤ)). number_at es c.args.variable) c.deref.ensures.value in
    let number : c.number_of-number.result ≡ q = c.number_of-number.ensures.value ∙ ap (λ (es : List (Var × ℤ)). number_at es c.args.variable) c.deref-2.ensures.value in
    let divisor = divisor_from c.number_of-own.result c.number_of-number.result c.gcd-divisor.result p q c.number_of-own.ensures.range c.number_of-number.ensures.range c.gcd-divisor.ensures.range c.gcd-divisor.ensures.value own number in
    let a : read c.quotient.result ≡ row_factor (form_of row) (form_of def) c.args.variable = factor_from c.quotient.result c.number_of-own.result c.gcd-divisor.result p (common p q) c.quotient.ensures.range c.number_of-own.ensures.range c.quotient.ensures.value own divisor in
    let b : read c.quotient-2.result ≡ def_factor (form_of row) (form_of def) c.args.variable = factor_from c.quotient-2.result c.number_of-number.result c.gcd-divisor.result q (common p q) c.quotient-2.ensures.range c.number_of-number.ensures.range c.quotient-2.ensures.value number divisor in
    let first = subst (λ x. IfOk c.combine_by.result (IsMade x (read c.quotient-2.result) row def)) a c.combine_by.ensures.made in
    subst (λ y. IfOk c.combine_by.result (IsMade (row_factor (form_of row) (form_of def) c.args.variable) y row def)) b first

pub returns-clause-says : goal.returns-clause-says
returns-clause-says c =
    let row = c.args.row.now in
    let def = c.args.definition.now in
    let v = c.args.variable in
    IfOk-weaker c.combine_by.result (IsCombined row def v) (λ made. SaysTheSameUnder row def made.0)
    (λ made m. made-says (row_factor (form_of row) (form_of def) v) (def_factor (form_of row) (form_of def) v) row def made (row_factor_positive row def v c.requires.positive) c.requires.defines m) (returns-clause-combined c)

pub returns-clause-removed : goal.returns-clause-removed
returns-clause-removed c =
    let row = c.args.row.now in
    let def = c.args.definition.now in
    let v = c.args.variable in
    IfOk-weaker c.combine_by.result (IsCombined row def v) (λ made. number_at made.0.entries.items v ≡ pos 0) (λ made m. combined-removed row def v made m) (returns-clause-combined c)

pub returns-clause-scaled : goal.returns-clause-scaled
returns-clause-scaled c =
    let row = c.args.row.now in
    let def = c.args.definition.now in
    let v = c.args.variable in
    IfOk-weaker c.combine_by.result (IsCombined row def v) (λ made. IsScaled row def (value_of made.1) made.0)
    (λ made m. made-IsScaled (row_factor (form_of row) (form_of def) v) (def_factor (form_of row) (form_of def) v) row def made (row_factor_positive row def v c.requires.positive) m) (returns-clause-combined c)
