-- By the rule of the finding.
use Rattle.data_warnings.proofs.Common.{◌≡◌, ℕ, ℤ, true, Contains, Feasible, Built, Var, Has-from_Contains, Finding, Place, Rule, YearSplitSum, YearGap, DiscountRate, UnprofiledDemand, ProfileSum, UnmadeDemand, StarvedTechnology, Disabled, Crossed, CrossedPeriod, Unreachable, ShortLives, CoarseRates, LargeFactor, LargeAvailability, LargeTarget, SmallMargin, NegativeCost, Outlier, OneWayRoute, EqualRoute, UnequalRoute, ZeroLimits, ZeroEmissions, HighLimits, IdleLimit, UnusedFuel, IdleTechnology, Rounded, findings, frame_of, excludes_plans, speaks, IsPlace}
use Rattle.model_sets.specs.Names as sets
use Rattle.data_warnings.proofs.CrossedLimits.{not_crossed, not_crossed_period}
use Rattle.data_warnings.proofs.FoundPlaces.{is_found}
use Rattle.data_warnings.proofs.LineEnds.{excluding}
use Rattle.data_warnings.proofs.MetEquations.{in_of}
use Rattle.data_warnings.proofs.UnreachedActivity.{not_unreachable}
use Rattle.data_warnings.proofs.UnmadeFuels.{not_unmade}
use Rattle.data_warnings.proofs.laws.no_plan_laws.Goals as goal

by_rule : (b : Built) (rule : Rule) (p : Place) → IsPlace b.facts (frame_of rule) p → speaks b rule p ≡ true → excludes_plans rule ≡ true → (places q : ℕ) (x : Var → ℤ) → Feasible places b.facts q x → ⊥
by_rule b UnmadeDemand p at spoken excludes places q x plan =
    not_unmade places b.facts q x plan p.first p.second p.last (in_of b.facts sets.region p.first at.first) (in_of b.facts sets.fuel p.second at.second) (in_of b.facts sets.year p.last at.last) spoken
by_rule b (Crossed pair) p at spoken excludes places q x plan =
    not_crossed places b.facts q x plan pair p.first p.second p.last (in_of b.facts sets.region p.first at.first) (in_of b.facts sets.technology p.second at.second) (in_of b.facts sets.year p.last at.last) spoken
by_rule b CrossedPeriod p at spoken excludes places q x plan =
    not_crossed_period places b.facts q x plan p.first p.second (in_of b.facts sets.region p.first at.first) (in_of b.facts sets.technology p.second at.second) spoken
by_rule b Unreachable p at spoken excludes places q x plan =
    not_unreachable places b.facts q x plan p.first p.second p.last (in_of b.facts sets.region p.first at.first) (in_of b.facts sets.technology p.second at.second) (in_of b.facts sets.year p.last at.last) spoken
by_rule b YearSplitSum p at spoken excludes places q x plan = absurd (cc excludes)
by_rule b YearGap p at spoken excludes places q x plan = absurd (cc excludes)
by_rule b DiscountRate p at spoken excludes places q x plan = absurd (cc excludes)
by_rule b UnprofiledDemand p at spoken excludes places q x plan = absurd (cc excludes)
by_rule b ProfileSum p at spoken excludes places q x plan = absurd (cc excludes)
by_rule b StarvedTechnology p at spoken excludes places q x plan = absurd (cc excludes)
by_rule b (Disabled enabler) p at spoken excludes places q x plan = absurd (cc excludes)
by_rule b ShortLives p at spoken excludes places q x plan = absurd (cc excludes)
by_rule b CoarseRates p at spoken excludes places q x plan = absurd (cc excludes)
by_rule b LargeFactor p at spoken excludes places q x plan = absurd (cc excludes)
by_rule b LargeAvailability p at spoken excludes places q x plan = absurd (cc excludes)
by_rule b LargeTarget p at spoken excludes places q x plan = absurd (cc excludes)
by_rule b SmallMargin p at spoken excludes places q x plan = absurd (cc excludes)
by_rule b (NegativeCost cost) p at spoken excludes places q x plan = absurd (cc excludes)
by_rule b (Outlier series) p at spoken excludes places q x plan = absurd (cc excludes)
by_rule b OneWayRoute p at spoken excludes places q x plan = absurd (cc excludes)
by_rule b EqualRoute p at spoken excludes places q x plan = absurd (cc excludes)
by_rule b UnequalRoute p at spoken excludes places q x plan = absurd (cc excludes)
by_rule b (ZeroLimits limit) p at spoken excludes places q x plan = absurd (cc excludes)
by_rule b (ZeroEmissions limit) p at spoken excludes places q x plan = absurd (cc excludes)
by_rule b (HighLimits ceiling) p at spoken excludes places q x plan = absurd (cc excludes)
by_rule b IdleLimit p at spoken excludes places q x plan = absurd (cc excludes)
by_rule b UnusedFuel p at spoken excludes places q x plan = absurd (cc excludes)
by_rule b IdleTechnology p at spoken excludes places q x plan = absurd (cc excludes)
by_rule b Rounded p at spoken excludes places q x plan = absurd (cc excludes)

excluded : (b : Built) (f : Finding) → Contains (findings b) f → excludes_plans f.rule ≡ true → (places q : ℕ) (x : Var → ℤ) → Feasible places b.facts q x → ⊥
excluded b f has excludes places q x plan =
    let here = is_found b f (Has-from_Contains (findings b) f has) in
    by_rule b f.rule f.place here.place here.speaks excludes places q x plan

pub returns-clause-excluded : goal.returns-clause-excluded
returns-clause-excluded c b f has excludes places q x plan = excluded b f has excludes places q x plan

pub returns-clause-told : goal.returns-clause-told
returns-clause-told c b f are has ending places q x plan = excluded b f has (excluding b.facts.sets are f ending) places q x plan
