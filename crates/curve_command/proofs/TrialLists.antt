-- Trials one after another.
use Rattle.curve_command.proofs.Common.{◌≡◌, ℕ, ◌+◌, ◌<◌, ℤ, List, [], ◌∷◌, ◌++◌, length, map, drop, get_or, sym, ap, ◌∙◌, append_assoc, AllByRecursion, drop_more, map-append, Data, limits_in, IsFoundOf, found_seen, Wanted, Found, Member}
use Rattle.curve_command.specs.Trials.{IsTrialOf}

-- what was found is what the trials come to
pub trials-of : (places : ℕ) (d : Data) (member : Member) (wanted : Wanted) (all : List Found) → AllByRecursion (IsFoundOf places d member wanted) all
    → AllByRecursion (IsTrialOf places d member.region member.emission wanted) (map found_seen all)
trials-of places d member wanted [] are = tt
trials-of places d member wanted (found ∷ all) are = (are.0.0, trials-of places d member wanted all are.1)

-- the limits of the trials so far, and those that are left from the next on
pub limits-split : (all : List Found) (limits : List ℤ) (i : ℕ) (z : ℤ) → i < length limits → limits_in (map found_seen all) ++ drop i limits ≡ limits
    → limits_in (map found_seen all) ++ get_or limits i z ∷ drop (i + 1) limits ≡ limits
limits-split all limits i z inside so_far = ap (λ (zs : List ℤ). limits_in (map found_seen all) ++ zs) (sym (drop_more limits i z inside)) ∙ so_far

pub limits-next : (all : List Found) (found : Found) (limits : List ℤ) (i : ℕ) (z : ℤ) → i < length limits → found.limit ≡ get_or limits i z → limits_in (map found_seen all) ++ drop i limits ≡ limits
    → limits_in (map found_seen (all ++ found ∷ [])) ++ drop (i + 1) limits ≡ limits
limits-next all found limits i z inside of_limit so_far =
    let seen : List ℤ = limits_in (map found_seen all) in
    ap (λ (zs : List ℤ). zs ++ drop (i + 1) limits) (ap limits_in (map-append found_seen all (found ∷ [])) ∙ map-append (λ f. f.0) (map found_seen all) (found_seen found ∷ []))
    ∙ append_assoc seen (found.limit ∷ []) (drop (i + 1) limits)
    ∙ ap (λ (n : ℤ). seen ++ n ∷ drop (i + 1) limits) of_limit
    ∙ limits-split all limits i z inside so_far
