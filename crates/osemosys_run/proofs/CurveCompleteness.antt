-- Where nothing stops the trial of any limit, a curve is told whole.
use Rattle.osemosys_run.proofs.Common.{Source, ◌≡◌, ℕ, ℤ, ◌+◌, inl, inr, List, [], ◌∷◌, ◌++◌, Option, Some, None, refl, sym, ◌∙◌, ap, subst, AllByRecursion, Data, index_of, members, EMISSION, REGION, Place, instances, SolveMethod, DueForText, Status, Done, DueForCurve, DueForLimits, limits_in, CanBeDrawn, CanBeTried}
use Rattle.row_book.specs.declared.fail.BookFail.TheVariants as book
use Rattle.simplex_core.specs.declared.stops.TrialStop.{TrialStop}
use Rattle.emission_curve.specs.Ends.{HasLine, HasLineBelow, HasNoBound, HasNoPlan, IsStopped, PointEnd}
use Rattle.emission_curve.specs.Points.{EndIsRounded}
use Rattle.curve_command.specs.CurveTexts.{Found, else_stop, first_stop, status_for, stop_of}
use Rattle.curve_command.specs.Limited.{limit_at, with_limit}
use Rattle.curve_command.specs.Trials.{EndsSo, IsTrialOf}
use Rattle.curve_command.specs.declared.trials.Wanted.{Wanted}
use Rattle.osemosys_run.proofs.Completeness.{Laws, no_rows, not_too_large, over_accepted}

-- what holds of all holds of one among them
of_one : {A : Type 0} → (P : A → Type 0) (first : List A) (one : A) (last : List A) → AllByRecursion P (first ++ one ∷ last) → P one
of_one P [] one last all = all.0
of_one P (other ∷ first) one last all = of_one P first one last all.1

wide_or_memory : (place : Place) → book.Width place ≡ book.Memory → ⊥
wide_or_memory place e = cc e

same_member : (found : Option ℕ) (a b : ℕ) → found ≡ Some a → found ≡ Some b → a ≡ b
same_member found a b h k = cc (h, k)

no_member : (found : Option ℕ) (a : ℕ) → found ≡ None → found ≡ Some a → ⊥
no_member found a h k = cc (h, k)

-- an end that is no stop stops nothing
no_stop_of : (number : ℕ) (end : PointEnd) → ((stop : TrialStop) → end ≡ IsStopped stop → ⊥) → stop_of number end ≡ None
no_stop_of number (HasLine cost slope) never = refl
no_stop_of number (HasLineBelow cost bound slope) never = refl
no_stop_of number HasNoPlan never = refl
no_stop_of number HasNoBound never = refl
no_stop_of number (IsStopped stop) never = absurd (never stop refl)

module _ (laws : Laws) (places : ℕ) (d : Data) (r e : ℕ) (wanted : Wanted) where
  -- the trial of a limit at which nothing stops it comes to an end
  never_stops : (found : Found) → CanBeTried places d r e wanted.pivots found.0 → IsTrialOf places d r e wanted found → (stop : TrialStop) → found.1 ≡ IsStopped stop → ⊥
  never_stops found can trial stop is = by_cause trial.cause
    where
      at : Data
      at = with_limit d r e found.0

      by_cause : EndsSo places at (limit_at r e) wanted found.1 → ⊥
      by_cause (inl wide) = wide_or_memory (Place.Row wide.name) (laws.made places at 0 (instances at) (book.Width (Place.Row wide.name)) can.made (wide.name, refl, wide.wide))
      by_cause (inr (inl exactly)) = can.ends exactly.rows exactly.are_rows stop (sym exactly.due.1 ∙ is)
      by_cause (inr (inr rounded)) = subst (λ end. EndIsRounded wanted.gap end) is rounded.rounded

  no_stop : (number : ℕ) (all : List Found) → AllByRecursion (CanBeTried places d r e wanted.pivots) (limits_in all) → AllByRecursion (IsTrialOf places d r e wanted) all → first_stop number all ≡ None
  no_stop number [] can trials = refl
  no_stop number (found ∷ all) can trials =
      subst (λ first. else_stop first (first_stop (number + 1) all) ≡ None) (sym (no_stop_of number found.1 (never_stops found can.0 trials.0)))
      (no_stop (number + 1) all can.1 trials.1)

  limits_done : (limits : List ℤ) (status : Status) (text : List ℕ) → AllByRecursion (CanBeTried places d r e wanted.pivots) limits → DueForLimits places d r e wanted limits status text → status ≡ Done
  limits_done limits status text can (inl curve) =
      curve.status_is ∙ ap status_for (no_stop 1 curve.all (subst (AllByRecursion (CanBeTried places d r e wanted.pivots)) (sym curve.whole) can) curve.trials)
  limits_done limits status text can (inr refusal) =
      let tried = of_one (CanBeTried places d r e wanted.pivots) (limits_in refusal.earlier) refusal.limit refusal.later
      (subst (AllByRecursion (CanBeTried places d r e wanted.pivots)) (sym refusal.split) can) in
      elim refusal.refuses [
        | inl many ↦ no_rows laws places (with_limit d r e refusal.limit) tried.made status text (inr many)
        | inr made ↦ absurd (not_too_large laws places (with_limit d r e refusal.limit) tried.made tried.within wanted.method wanted.pivots made.rows made.are_rows status text made.due)
      ]

-- what the words ask for
abbrev wanted_for : SolveMethod → ℕ → ℕ → Wanted
wanted_for method pivots gap = record { method = method; pivots = pivots; gap = gap }

module _ (laws : Laws) (region emission : List ℕ) (limits : List ℤ) (gap pivots places : ℕ) (method : SolveMethod) (source : Source) (status : Status) (text : List ℕ) (can : CanBeDrawn region emission limits pivots places source) where
  members_done : DueForCurve places (wanted_for method pivots gap) (record { region = region; emission = emission }) limits can.d status text → status ≡ Done
  members_done (inl none) = absurd (no_member (index_of (members can.d.sets REGION) region) can.r none.missing can.region_is)
  members_done (inr (inl alone)) = absurd (no_member (index_of (members can.d.sets EMISSION) emission) can.e alone.emission_isnt.missing can.emission_is)
  members_done (inr (inr both)) =
      limits_done laws places can.d can.r can.e (wanted_for method pivots gap) limits status text can.each
      (subst (λ r. DueForLimits places can.d r can.e (wanted_for method pivots gap) limits status text) (same_member (index_of (members can.d.sets REGION) region) both.r can.r both.region_is.found can.region_is)
      (subst (λ e. DueForLimits places can.d both.r e (wanted_for method pivots gap) limits status text) (same_member (index_of (members can.d.sets EMISSION) emission) both.e can.e both.emission_is.found can.emission_is)
      both.due))

  pub drawn : DueForText (λ rounded. DueForCurve places (wanted_for method pivots gap) (record { region = region; emission = emission }) limits) source status text → status ≡ Done
  drawn due = members_done (over_accepted laws (λ rounded. DueForCurve places (wanted_for method pivots gap) (record { region = region; emission = emission }) limits) source can.d status text can.accepted due)
