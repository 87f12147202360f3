-- What the answers on a refused member mean.
use Rattle.std.specs.Prelude.{◌≡◌, ℕ, Option, None, Some}
use Rattle.model_sets.specs.declared.fault.SetFail.{SetFail}
use Rattle.model_sets.specs.declared.fault.SetFail.TheVariants.{Fault, Memory}

-- the failure is due, where this rule is the first to refuse a member of set k: it names the rule and the set, and out of memory comes only where no rule refuses
abbrev pub IsDueTo : Option ℕ → ℕ → SetFail → Type 0
IsDueTo refusal k (Fault fault) = (refusal ≡ Some fault.no) × (fault.set ≡ k)
IsDueTo refusal k Memory = refusal ≡ None
