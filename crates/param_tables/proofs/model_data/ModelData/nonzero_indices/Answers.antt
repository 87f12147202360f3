-- No list is as long as the greatest number of indices that can be asked for.
use Rattle.param_tables.proofs.Common.{◌≡◌, ◌<◌, ℕ, List, length, take, inl, inr, ap, ◌∙◌, arith, cases_lt, length-take-le, take_all, IfOk-weaker, nonzero_indices, RatioIndex}
use Rattle.param_tables.proofs.model_data.ModelData.nonzero_indices.Goals as goal

-- fewer first ones than were asked for are all
all-from_fewer : (most : ℕ) (xs ys : List RatioIndex) → ys ≡ take most xs → length ys < most → ys ≡ xs
all-from_fewer most xs ys first fewer =
    elim (cases_lt (length xs) most) [
      | inl less ↦ first ∙ take_all most xs (omega (arith, less))
      | inr from ↦ absurd (let long : length ys ≡ most = ap length first ∙ length-take-le most xs from in omega (arith, long, fewer))
    ]

pub returns : goal.returns
returns c =
    IfOk-weaker c.first_nonzero_indices.result _ _
    (λ found first. all-from_fewer _ (nonzero_indices c.args.self.now.facts c.args.ratio c.args.region) found.items first (let fewer : length found.items < 18446744073709551615 = omega (arith, found.ok.0, found.small) in fewer))
    c.first_nonzero_indices.ensures
