-- Where nothing stops the work, a span is found, or it is told that there is no plan or no least cost.
use Rattle.osemosys_run.proofs.Common.{Source, ◌≡◌, ℕ, true, inl, inr, List, Option, Some, None, sym, ◌∙◌, subst, all_fit, Rational, Data, index_of, members, REGION, TECHNOLOGY, YEAR, Row, Var, all_variables, instances, AreRowsOf, CanBeMade, SolveMethod, Exact, Rounded, definers, DueForText, Status, IsWithinLimits, slack_formed, slack_limit, Stopped, CanBeSpanned, IsEnded, NothingStopsSpan}
use Rattle.certified_answers.specs.Worth.{multiplier_bound}
use Rattle.span_finder.specs.SpanEnds.{Stops}
use Rattle.span_command.specs.Span.{DueBy, DueForEnd, DueForFound, DueForMember, DueForMethod, DueForSpan, Finds, HasLeastCost, built}
use Rattle.span_command.specs.declared.wanted.Wanted.{Wanted}
use Rattle.osemosys_run.proofs.Completeness.{Laws, found_or_due, no_rows, over_accepted}

same_member : (found : Option ℕ) (a b : ℕ) → found ≡ Some a → found ≡ Some b → a ≡ b
same_member found a b h k = cc (h, k)

no_member : (found : Option ℕ) (a : ℕ) → found ≡ None → found ≡ Some a → ⊥
no_member found a h k = cc (h, k)

module _ (laws : Laws) (places : ℕ) (d : Data) (var : Var) (wanted : Wanted) (can_make : CanBeMade places d 0 (instances d))
    (within : (rows : List Row) → AreRowsOf places d (instances d) rows → IsWithinLimits rows (all_variables d))
    (nothing : (rows : List Row) → AreRowsOf places d (instances d) rows → NothingStopsSpan rows (all_variables d) var wanted.slack wanted.pivots) where
  -- a least cost is what its multipliers prove
  cost-bound : (rows : List Row) (cost : Rational) (least : HasLeastCost places d rows wanted.pivots cost) → multiplier_bound rows least.multipliers ≡ cost
  cost-bound rows cost least = sym (least.optimum.same ∙ least.optimum.near.proved.bound_is)

  limit-fits : (rows : List Row) → NothingStopsSpan rows (all_variables d) var wanted.slack wanted.pivots → (cost : Rational) → HasLeastCost places d rows wanted.pivots cost → all_fit (slack_formed cost wanted.slack) ≡ true
  limit-fits rows never cost least = subst (λ (c : Rational). all_fit (slack_formed c wanted.slack) ≡ true) (cost-bound rows cost least) (never.limit_fits least.plan least.multipliers least.made least.end)

  end_comes : (rows : List Row) (rounded : ℕ) (status : Status) (text : List ℕ) → NothingStopsSpan rows (all_variables d) var wanted.slack wanted.pivots
      → DueForEnd places d rows var wanted rounded status text → IsEnded status
  end_comes rows rounded status text never (inl spanned) = inl spanned.status_is
  end_comes rows rounded status text never (inr (inl endless)) = inl endless.status_is
  end_comes rows rounded status text never (inr (inr (inl infeasible))) = inr (inl infeasible.status_is)
  end_comes rows rounded status text never (inr (inr (inr (inl unbounded)))) = inr (inr unbounded.status_is)
  end_comes rows rounded status text never (inr (inr (inr (inr (inl before))))) = elim before.end [
    | inl due ↦ absurd (never.in_time due.0)
    | inr wide ↦ absurd (never.fits wide.0 wide.1)
  ]
  end_comes rows rounded status text never (inr (inr (inr (inr (inr (inl wide)))))) =
      let fits : all_fit (slack_formed wide.cost wanted.slack) ≡ true = limit-fits rows never wide.cost wide.least in
      absurd (cc (fits, wide.wide))
  end_comes rows rounded status text never (inr (inr (inr (inr (inr (inr after)))))) =
      let least = after.least in
      absurd (never.never least.plan least.multipliers least.made least.end after.stop
      (subst (λ (c : Rational). Stops rows (definers rows) (all_variables d) (slack_limit c wanted.slack) var wanted.pivots (Stopped after.stop)) (sym (cost-bound rows after.cost least)) after.stops))

  found_comes : (rows : List Row) (rounded : ℕ) (status : Status) (text : List ℕ) → DueForFound places d rows var wanted rounded status text → IsEnded status
  found_comes rows rounded status text (inl spanned) = inl spanned.status_is
  found_comes rows rounded status text (inr infeasible) = inr (inl infeasible.status_is)

  method_comes : (method : SolveMethod) (rows : List Row) (rounded : ℕ) (status : Status) (text : List ℕ) → NothingStopsSpan rows (all_variables d) var wanted.slack wanted.pivots
      → DueBy method places d rows var wanted rounded status text → IsEnded status
  method_comes Exact rows rounded status text never due = end_comes rows rounded status text never due
  method_comes Rounded rows rounded status text never (inl found) = found_comes rows rounded status text found
  method_comes Rounded rows rounded status text never (inr due) = end_comes rows rounded status text never due

  find_comes : (method : SolveMethod) (rows : List Row) (rounded : ℕ) (status : Status) (text : List ℕ) → Finds method places d rows var wanted rounded status text → IsEnded status
  find_comes Exact rows rounded status text found = absurd found
  find_comes Rounded rows rounded status text found = found_comes rows rounded status text found

  pub member_ends : (rounded : ℕ) (status : Status) (text : List ℕ) → DueForMember places wanted var rounded d status text → IsEnded status
  member_ends rounded status text (inl made) =
      let rows = made.rows in
      elim (found_or_due laws places d can_make within wanted.method wanted.pivots (Finds wanted.method places d rows var wanted rounded) (DueForMethod places d rows var wanted rounded) rows made.are_rows status text made.due) [
        | inl found ↦ find_comes wanted.method rows rounded status text found
        | inr due ↦ method_comes wanted.method rows rounded status text (nothing rows made.are_rows) due
      ]
  member_ends rounded status text (inr none) = inl (no_rows laws places d can_make status text none)

-- what the words ask for
abbrev wanted_for : SolveMethod → ℕ → Option ℕ → ℕ → Wanted
wanted_for method slack gap pivots = record { method = method; slack = slack; gap = gap; pivots = pivots }

module _ (laws : Laws) (region technology year : List ℕ) (slack : ℕ) (gap : Option ℕ) (pivots places : ℕ) (method : SolveMethod) (source : Source) (status : Status) (text : List ℕ) (can : CanBeSpanned region technology year slack pivots places source) where
  abbrev wanted : Wanted
  wanted = wanted_for method slack gap pivots

  members_end : (rounded : ℕ) → DueForSpan places wanted (record { region = region; technology = technology; year = year }) rounded can.d status text → IsEnded status
  members_end rounded (inl none) = absurd (no_member (index_of (members can.d.sets REGION) region) can.r none.missing can.region_is)
  members_end rounded (inr (inl alone)) = absurd (no_member (index_of (members can.d.sets TECHNOLOGY) technology) can.t alone.technology_isnt.missing can.technology_is)
  members_end rounded (inr (inr (inl no_year))) = absurd (no_member (index_of (members can.d.sets YEAR) year) can.y no_year.year_isnt.missing can.year_is)
  members_end rounded (inr (inr (inr all))) =
      member_ends laws places can.d (built can.r can.t can.y) wanted can.made can.within can.ends rounded status text
      (subst (λ r. DueForMember places wanted (built r can.t can.y) rounded can.d status text) (same_member (index_of (members can.d.sets REGION) region) all.r can.r all.region_is.found can.region_is)
      (subst (λ t. DueForMember places wanted (built all.r t can.y) rounded can.d status text) (same_member (index_of (members can.d.sets TECHNOLOGY) technology) all.t can.t all.technology_is.found can.technology_is)
      (subst (λ y. DueForMember places wanted (built all.r all.t y) rounded can.d status text) (same_member (index_of (members can.d.sets YEAR) year) all.y can.y all.year_is.found can.year_is)
      all.due)))

  pub spanned : DueForText (DueForSpan places wanted (record { region = region; technology = technology; year = year })) source status text → IsEnded status
  spanned due =
      members_end can.accepted.rounded
      (over_accepted laws (DueForSpan places wanted (record { region = region; technology = technology; year = year })) source can.d status text can.accepted due)
