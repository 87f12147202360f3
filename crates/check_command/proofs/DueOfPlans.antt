-- What is due for an outcome, and what is worth an optimum that is accepted.
use Rattle.check_command.proofs.Common.{◌≡◌, ℕ, inl, inr, List, Option, Some, None, refl, ap, ap₂, sym, ◌∙◌, Rational, Data, SetLists, Row, RowName, Var, Accepted, Rejected, Wide, Optimum, HasWorth, Status, Done, DueForPlan, bound_and_gap, accepted_text, rejected_line, IsOutcome, TellsBound, TellsOutcome, bound_values, worth_of, uncertified_line}
use Rattle.std.specs.Option.{option_map}
use Rattle.check_command.specs.declared.outcome.Bound.{Bound}
use Rattle.check_command.specs.declared.outcome.Outcome.{Outcome}
use Rattle.simplex_core.specs.declared.stops.Stop.TheVariants.{Width}

bounds-told : (d : Data) (rows : List Row) (plan : List (Var × Rational)) (multipliers : Option (List (RowName × Rational))) (bound : Option Bound) → TellsBound d rows plan multipliers bound
    → option_map bound_values bound ≡ option_map (bound_and_gap d rows plan) multipliers
bounds-told d rows plan None None told = refl
bounds-told d rows plan None (Some bound) told = absurd told
bounds-told d rows plan (Some multipliers) None told = absurd told
bounds-told d rows plan (Some multipliers) (Some bound) told = ap₂ (λ b g. Some (b, g)) told.0 told.1

pub due-from_outcome : (places : ℕ) (d : Data) (rows : List Row) (plan : List (Var × Rational)) (multipliers : Option (List (RowName × Rational))) (gap : ℕ) (sets : SetLists)
    (outcome : Outcome) (status : Status) (text : List ℕ) → sets ≡ d.sets → IsOutcome places d rows plan multipliers gap outcome → TellsOutcome sets outcome status text
    → DueForPlan places d rows plan multipliers gap status text
due-from_outcome places d rows plan multipliers gap sets (Accepted cost bound) status text same is told =
    inl (record {
      pass = is.0;
      feasible = is.1;
      bounded = is.2;
      status_is = told.0;
      text_is = told.1 ∙ ap₂ accepted_text is.3 (bounds-told d rows plan multipliers bound is.4);
    })
due-from_outcome places d rows plan multipliers gap sets (Rejected rejection) status text same is told =
    inr (inl (record {
      rejection = rejection;
      fails = is.0;
      infeasible = is.1;
      status_is = told.0;
      line_is = told.1 ∙ ap (λ (s : SetLists). rejected_line s rejection) same;
    }))
due-from_outcome places d rows plan multipliers gap sets (Wide place) status text same is told =
    inr (inr (record { place = place; wide = is; status_is = told.0; line_is = told.1 ∙ ap (λ (s : SetLists). uncertified_line s (Width place)) same }))

pub worth-from_outcome : (places : ℕ) (d : Data) (rows : List Row) (plan : List (Var × Rational)) (multipliers : List (RowName × Rational)) (gap : ℕ) (sets : SetLists)
    (outcome : Outcome) (status : Status) (text : List ℕ) → IsOutcome places d rows plan (Some multipliers) gap outcome → TellsOutcome sets outcome status text → status ≡ Done
    → HasWorth d rows (Optimum plan multipliers) (worth_of outcome)
worth-from_outcome places d rows plan multipliers gap sets (Accepted cost None) status text is told done = absurd is.4
worth-from_outcome places d rows plan multipliers gap sets (Accepted cost (Some bound)) status text is told done = (is.3, is.4.0)
worth-from_outcome places d rows plan multipliers gap sets (Rejected rejection) status text is told done = cc (sym told.0 ∙ done)
worth-from_outcome places d rows plan multipliers gap sets (Wide place) status text is told done = cc (sym told.0 ∙ done)
