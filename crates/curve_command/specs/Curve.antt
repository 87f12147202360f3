-- What `curve` says over accepted data: for each limit on the emissions of the model period what the least cost is and how much each unit of the limit adds to it;
-- that no plan keeps the limit; that there is no least cost; or why the trial of the limit came to none of these.
use Rattle.std.specs.Prelude.{◌≡◌, ◌⊎◌, ℕ, ℤ, List, ◌∷◌, ◌++◌, map}
use Rattle.std.specs.List.{AllByRecursion}
use Rattle.model_sets.specs.Data.{Data}
use Rattle.model_sets.specs.declared.set_numbers.TheConstants.{EMISSION, REGION}
use Rattle.command_answers.specs.declared.status.Status.{Status}
use Rattle.command_answers.specs.NamedMembers.{IsMemberAt, IsNoMember}
use Rattle.curve_command.specs.CurveTexts.{Found, curve_status, curve_text}
use Rattle.curve_command.specs.Limited.{with_limit}
use Rattle.curve_command.specs.Trials.{IsTrialOf, RefusesTrial}
use Rattle.curve_command.specs.declared.trials.Wanted.{Wanted}

-- the limits of what was found
abbrev pub limits_in : List Found → List ℤ
limits_in all = map (λ found. found.0) all

-- the trial of each limit comes to an end or stops; the text has the line of each, and the status tells the first that stopped
pub record HasCurve (places : ℕ) (d : Data) (r e : ℕ) (wanted : Wanted) (limits : List ℤ) (status : Status) (text : List ℕ) : Type 0 where
  pub all : List Found
  pub whole : limits_in all ≡ limits
  pub trials : AllByRecursion (IsTrialOf places d r e wanted) all
  pub status_is : status ≡ curve_status all
  pub text_is : text ≡ curve_text d.sets all

-- the first trial that refuses is the last: so the call refuses
pub record HasRefusal (places : ℕ) (d : Data) (r e : ℕ) (wanted : Wanted) (limits : List ℤ) (status : Status) (text : List ℕ) : Type 0 where
  pub earlier : List Found
  pub limit : ℤ
  pub later : List ℤ
  pub split : limits_in earlier ++ limit ∷ later ≡ limits
  pub trials : AllByRecursion (IsTrialOf places d r e wanted) earlier
  pub refuses : RefusesTrial places wanted (with_limit d r e limit) status text

-- what is due for an emission in a region
abbrev pub DueForLimits : ℕ → Data → ℕ → ℕ → Wanted → List ℤ → Status → List ℕ → Type 0
DueForLimits places d r e wanted limits status text = HasCurve places d r e wanted limits status text ⊎ HasRefusal places d r e wanted limits status text

-- the words that name a region and an emission
pub record Names : Type 0 where
  pub region : List ℕ
  pub emission : List ℕ

-- both are members
pub record HasMembers (places : ℕ) (wanted : Wanted) (names : Names) (limits : List ℤ) (d : Data) (status : Status) (text : List ℕ) : Type 0 where
  pub r : ℕ
  pub e : ℕ
  pub region_is : IsMemberAt d.sets REGION names.region r
  pub emission_is : IsMemberAt d.sets EMISSION names.emission e
  pub due : DueForLimits places d r e wanted limits status text

-- the first is a member and the second isn't
pub record HasRegionAlone (names : Names) (d : Data) (status : Status) (text : List ℕ) : Type 0 where
  pub r : ℕ
  pub region_is : IsMemberAt d.sets REGION names.region r
  pub emission_isnt : IsNoMember d.sets EMISSION names.emission status text

-- What is due over these data, for what is wanted, the words of a region and an emission, and limits in billionths.
abbrev pub DueForCurve : ℕ → Wanted → Names → List ℤ → Data → Status → List ℕ → Type 0
DueForCurve places wanted names limits d status text =
    IsNoMember d.sets REGION names.region status text ⊎ HasRegionAlone names d status text ⊎ HasMembers places wanted names limits d status text
