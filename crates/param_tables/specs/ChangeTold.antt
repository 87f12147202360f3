-- What a change by the positions of members means, and what the answers on it mean.
use Rattle.std.specs.Prelude.{◌≡◌, ℕ, ◌+◌, ◌<◌, List, [], length, map, Option, Some, slice_index_or}
use Rattle.std.specs.List.{AllZip, zip}
use Rattle.mathprog_data.specs.WellFormed.{IsWithinLimit}
use Rattle.model_sets.specs.Data.{Data, IsUsedParam}
use Rattle.model_sets.specs.Members.{SetLists, members}
use Rattle.model_sets.specs.Names.{year}
use Rattle.model_sets.specs.Params.{subscript_sets}
use Rattle.param_tables.specs.Built.{Built}
use Rattle.param_tables.specs.Changes.{Change, Named, Every, One, Years, rounded_by, with_change}
use Rattle.param_tables.specs.Refusals.{Refusal}
use Rattle.param_tables.specs.Told.{NamesCell, refusal_told}
use Rattle.param_tables.specs.declared.change.Change.{Change as ChangeByPositions}
use Rattle.param_tables.specs.declared.change.Members.{Members}
use Rattle.param_tables.specs.declared.change.Members.TheVariants as by
use Rattle.param_tables.specs.declared.fault.ChangeFail.{ChangeFail}
use Rattle.param_tables.specs.declared.fault.ChangeFail.TheVariants.{Fault, Memory}

-- the members of set k that are named, by their names
abbrev pub named_by : SetLists → ℕ → Members → Named
named_by sets k by.Every = Every
named_by sets k (by.One i) = One (slice_index_or (members sets k) i [])
named_by sets k (by.Years first last) = Years first last

-- those of each subscript
abbrev pub named_over : SetLists → List ℕ → List Members → List Named
named_over sets ks named = map (λ (k, m). named_by sets k m) (zip ks named)

-- the change by the names of the members
abbrev pub change_told : SetLists → ChangeByPositions → Change
change_told sets change = record { param = change.param; named = named_over sets (subscript_sets change.param) change.members.items; kind = change.kind; amount = change.amount }

-- members of set k can be named so: by the position of one, or as years where it is YEAR
abbrev pub CanBeNamed : SetLists → ℕ → Members → Type 0
CanBeNamed sets k by.Every = Unit {0}
CanBeNamed sets k (by.One i) = i < length (members sets k)
CanBeNamed sets k (by.Years first last) = k ≡ year

-- for each subscript members of its set are named
abbrev pub CanAllBeNamed : SetLists → List ℕ → List Members → Type 0
CanAllBeNamed sets ks named = AllZip (CanBeNamed sets) ks named

-- the change is one of a used parameter, with members of the set of each of its subscripts, and a number of a data section
pub record IsChangeOf (d : Data) (change : ChangeByPositions) : Type 0 where
  pub used : IsUsedParam d change.param
  pub named : CanAllBeNamed d.sets (subscript_sets change.param) change.members.items
  pub amount : IsWithinLimit change.amount

-- the built data are those with the change, and what it rounds is counted
pub record IsBuiltByChange (change : Change) (old new : Built) : Type 0 where
  pub facts : new.facts ≡ with_change old.facts change
  pub rounded : new.rounded ≡ old.rounded + rounded_by old.facts change

-- the failure is due, where this refusal is the first: it tells the refusal; it may run out of memory at any time
abbrev pub IsChangeFailDue : Option Refusal → SetLists → ChangeFail → Type 0
IsChangeFailDue refusal sets (Fault fault) = (refusal ≡ Some (refusal_told sets fault)) × NamesCell sets fault
IsChangeFailDue refusal sets Memory = Unit {0}

-- a change that is refused leaves the data as they are
abbrev pub IsLeftBy : Built → Built → ChangeFail → Type 0
IsLeftBy old new (Fault fault) = new ≡ old
IsLeftBy old new Memory = Unit {0}
