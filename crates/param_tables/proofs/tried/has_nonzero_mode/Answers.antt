use Rattle.param_tables.proofs.Common.{◌≡◌, ℕ, ◌<◌, false, length, sym, ap, ◌∙◌, subst, arith, inl, inr, cases_lt, SetLists, members, mode, count_in, is_ratio_nonzero}
use Rattle.param_tables.proofs.RatioFacts.{any_from_below, none_below}
use Rattle.param_tables.proofs.tried.has_nonzero_mode.Goals as goal

-- the count is that of the data's modes
count_is : (sets all : SetLists) (n : ℕ) → n ≡ length (members sets mode) → sets ≡ all → n ≡ count_in all mode
count_is sets all n count same = count ∙ ap (λ s. length (members s mode)) same

pub returns-then-is_ratio_nonzero : goal.returns-then-is_ratio_nonzero
returns-then-is_ratio_nonzero c =
    let d = c.args.model.now.facts in
    let test = λ (m : ℕ). is_ratio_nonzero d c.args.ratio c.args.region c.args.technology c.args.commodity m c.args.year in
    let count : c.count-mode-end.result ≡ count_in d.sets mode = count_is c.sets.result.now d.sets c.count-mode-end.result c.count-mode-end.ensures.count c.sets.ensures.sets in
    let below : c.loop-mode.mode < count_in d.sets mode = subst (λ n. c.loop-mode.mode < n) count c.loop-mode-test.true in
    sym (any_from_below test (count_in d.sets mode) c.loop-mode.mode below (sym c.is_ratio_nonzero.ensures ∙ c.if-is_ratio_nonzero.true))

pub loop-mode-preserved : goal.loop-mode-preserved
loop-mode-preserved c m below =
    let d = c.args.model.now.facts in
    let test = λ (n : ℕ). is_ratio_nonzero d c.args.ratio c.args.region c.args.technology c.args.commodity n c.args.year in
    let here : test c.loop-mode.mode ≡ false = sym c.is_ratio_nonzero.ensures ∙ c.if-is_ratio_nonzero.false in
    elim (cases_lt m c.loop-mode.mode) [
      | inl before ↦ c.loop-mode.invariant m before
      | inr last ↦ let same : m ≡ c.loop-mode.mode = omega arith in ap test same ∙ here
    ]

pub returns : goal.returns
returns c =
    let d = c.args.model.now.facts in
    let test = λ (m : ℕ). is_ratio_nonzero d c.args.ratio c.args.region c.args.technology c.args.commodity m c.args.year in
    let count : c.count-mode-end.result ≡ count_in d.sets mode = count_is c.sets.result.now d.sets c.count-mode-end.result c.count-mode-end.ensures.count c.sets.ensures.sets in
    none_below test (count_in d.sets mode) (λ k below. c.loop-mode.invariant k (omega (arith, c.loop-mode-test.false)))
