-- What the answers on refused data mean.
use Rattle.std.specs.Prelude.{◌≡◌, Option, Some}
use Rattle.model_sets.specs.Members.{SetLists}
use Rattle.model_sets.specs.Params.{IsParam}
use Rattle.param_tables.specs.Positions.{IsIndexOf, names_at}
use Rattle.param_tables.specs.Refusals.{Refusal, StorageMember, UnknownName, GivenBefore, AtIndex}
use Rattle.param_tables.specs.declared.fault.BuildFail.{BuildFail}
use Rattle.param_tables.specs.declared.fault.BuildFail.TheVariants.{Fault, Memory}
use Rattle.param_tables.specs.declared.fault.BuildFault.{BuildFault}
use Rattle.param_tables.specs.declared.fault.BuildFault.TheVariants.{UnknownMember, ValueTwice, NoValue, Negative, NotPositive, NotWhole, OutOfRange, Storage, WholeUnits}
use Rattle.param_tables.specs.declared.fault.Cell.{Cell}
use Rattle.param_tables.specs.declared.fault.CellFault.{CellFault}
use Rattle.param_tables.specs.declared.fault.CellFault.TheVariants as at_cell

-- the fault at the cell, by the names of its index
abbrev pub at : SetLists → CellFault → Cell → Refusal
at sets fault cell = AtIndex fault cell.param (names_at sets cell.param cell.index.items)

-- the refusal that the answer tells
abbrev pub refusal_told : SetLists → BuildFault → Refusal
refusal_told sets (UnknownMember mark) = UnknownName mark
refusal_told sets (ValueTwice mark) = GivenBefore mark
refusal_told sets (NoValue cell) = at sets at_cell.NoValue cell
refusal_told sets (Negative cell) = at sets at_cell.Negative cell
refusal_told sets (NotPositive cell) = at sets at_cell.NotPositive cell
refusal_told sets (NotWhole cell) = at sets at_cell.NotWhole cell
refusal_told sets (OutOfRange cell) = at sets at_cell.OutOfRange cell
refusal_told sets Storage = StorageMember
refusal_told sets (WholeUnits cell) = at sets at_cell.WholeUnits cell

-- the cell is one of a parameter, with an index of its own
abbrev pub IsCell : SetLists → Cell → Type 0
IsCell sets cell = IsParam cell.param × IsIndexOf sets cell.param cell.index.items

-- whatever the answer names is there
abbrev pub NamesCell : SetLists → BuildFault → Type 0
NamesCell sets (UnknownMember mark) = Unit {0}
NamesCell sets (ValueTwice mark) = Unit {0}
NamesCell sets (NoValue cell) = IsCell sets cell
NamesCell sets (Negative cell) = IsCell sets cell
NamesCell sets (NotPositive cell) = IsCell sets cell
NamesCell sets (NotWhole cell) = IsCell sets cell
NamesCell sets (OutOfRange cell) = IsCell sets cell
NamesCell sets Storage = Unit {0}
NamesCell sets (WholeUnits cell) = IsCell sets cell

-- the failure is due, where this refusal is the first: it tells the refusal, and hands these sets back; it may run out of memory at any time
abbrev pub IsBuildFailDue : Option Refusal → SetLists → BuildFail → Type 0
IsBuildFailDue refusal sets (Fault fault back) = (refusal ≡ Some (refusal_told sets fault)) × NamesCell sets fault × (back ≡ sets)
IsBuildFailDue refusal sets Memory = Unit {0}
