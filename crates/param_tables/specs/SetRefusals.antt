-- Why the sets that statements give are refused.
use Rattle.std.specs.Prelude.{◌≡◌, ℕ, ◌-◌, List, ◌++◌, map, set, filter, Option, Some}
use Rattle.std.specs.List.{flat_map, range_with_len}
use Rattle.std.specs.Option.{option_map}
use Rattle.model_sets.specs.declared.fault.SetFail.{SetFail}
use Rattle.model_sets.specs.declared.fault.SetFail.TheVariants.{Fault, Memory}
use Rattle.model_sets.specs.declared.fault.SetFault.{SetFault}
use Rattle.model_sets.specs.Members.{SetLists, no_members, members, first_refusal, empty_set, is_without_members}
use Rattle.model_sets.specs.Names.{IsSet, set_count, required_sets}
use Rattle.param_tables.specs.BlockData.{set_lists}
use Rattle.param_tables.specs.InTurn.{first_of, in_turn}
use Rattle.mathprog_data.specs.Meaning.{Blocks}

-- the fault of this number in set k
abbrev pub fault_in : ℕ → ℕ → SetFault
fault_in k number = record { no = number; set = k }

-- set k with these members
abbrev pub only : ℕ → List (List ℕ) → SetLists
only k names = set no_members (k - 1) names

-- why the name is refused as the member of set k that follows on these
abbrev pub refusal_after : ℕ → List (List ℕ) → List ℕ → Option SetFault
refusal_after k before name = option_map (fault_in k) (first_refusal (only k before) k name)

-- the refusals of the members of set k, member by member, each as the one that follows on those before it
abbrev pub member_refusals : ℕ → List (List ℕ) → List SetFault
member_refusals k names = in_turn (refusal_after k) names

-- the refusals of all sets: of their members, set by set, and then of the sets that must have a member and have none
abbrev pub set_refusals : SetLists → List SetFault
set_refusals sets =
    flat_map (λ k. member_refusals k (members sets k)) (range_with_len 1 set_count)
    ++ map (λ k. fault_in k empty_set) (filter (is_without_members sets) required_sets)

-- the first refusal of the sets that the statements give
abbrev pub first_set_refusal : Blocks → Option SetFault
first_set_refusal statements = first_of (set_refusals (set_lists statements))

-- the failure is due, where this refusal, in one of the sets, is the first; it may run out of memory at any time
abbrev pub IsSetFailDue : Option SetFault → SetFail → Type 0
IsSetFailDue refusal (Fault fault) = (refusal ≡ Some fault) × IsSet fault.set
IsSetFailDue refusal Memory = Unit {0}
