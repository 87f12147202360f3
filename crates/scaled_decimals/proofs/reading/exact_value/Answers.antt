-- What stands after the minus has one form only.
use Rattle.scaled_decimals.proofs.Common.{◌≡◌, arith, eqb, sym, ap, ◌∙◌, subst, slice_index, FractionText, SpellsValue, below_of, AgreesWith, form_of}
use Rattle.scaled_decimals.proofs.ValueTextLemmas.{one_form, one_value_way, body-is, SpellsValue-at, ReadsValue-from}
use Rattle.scaled_decimals.proofs.reading.exact_value.Goals as goal

none : (c : goal.In-None) (f : FractionText) → SpellsValue f c.args.text.now → ⊥
none c f is = c.in-None.ensures f.form is.formed (c.split_minus-negative.ensures.rest ∙ body-is f c.args.text.now is)

pub returns-in-None-clause-answer : goal.returns-in-None-clause-answer
returns-in-None-clause-answer c = none c

pub returns-in-None-clause-value : goal.returns-in-None-clause-value
returns-in-None-clause-value c = λ f is. absurd (none c f is)

zero : (c : goal.Then-below-eq0) (f : FractionText) → SpellsValue f c.args.text.now → ⊥
zero c f is =
    let same = one_form f.form (form_of c.in-Some.shape) c.split_minus-negative.result.1.now is.formed c.in-Some.ensures.0 (c.split_minus-negative.ensures.rest ∙ body-is f c.args.text.now is) c.in-Some.ensures.1 in
    let below : below_of f.form ≡ below_of (form_of c.in-Some.shape) = ap below_of same in
    is.nonzero (omega (arith, c.below-below.ensures, c.if-below-eq0.true))

pub returns-then-below-eq0-clause-answer : goal.returns-then-below-eq0-clause-answer
returns-then-below-eq0-clause-answer c = zero c

pub returns-then-below-eq0-clause-value : goal.returns-then-below-eq0-clause-value
returns-then-below-eq0-clause-value c = λ f is. absurd (zero c f is)

abbrev found : goal.After-fraction → FractionText
found c = record { negative = eqb (slice_index c.args.text.now 0) 45; form = form_of c.in-Some.shape }

spells : (c : goal.After-fraction) → SpellsValue (found c) c.args.text.now
spells c =
    SpellsValue-at c.args.text.now (form_of c.in-Some.shape) c.in-Some.ensures.0 (sym c.split_minus-negative.ensures.rest ∙ c.in-Some.ensures.1)
    (λ none. c.if-below-eq0.false (omega (arith, c.below-below.ensures)))

agrees : (c : goal.After-fraction) → AgreesWith (found c) c.fraction.result
agrees c = c.fraction.ensures (found c) (sym c.split_minus-negative.ensures.negative) c.above.ensures c.below-below.ensures

pub returns-else-below-eq0-clause-answer : goal.returns-else-below-eq0-clause-answer
returns-else-below-eq0-clause-answer c = ReadsValue-from (found c) c.args.text.now c.fraction.result (spells c) (agrees c)

pub returns-else-below-eq0-clause-value : goal.returns-else-below-eq0-clause-value
returns-else-below-eq0-clause-value c =
    λ f is. subst (λ (g : FractionText). AgreesWith g c.fraction.result) (one_value_way c.args.text.now (found c) f (spells c) is) (agrees c)
