-- What the answers on a file of changes mean.
use Rattle.std.specs.Prelude.{◌≡◌, ℕ, Result, Err}
use Rattle.model_sets.specs.Members.{SetLists}
use Rattle.param_tables.specs.Built.{Built}
use Rattle.param_tables.specs.declared.fault.ChangeFail.{ChangeFail}
use Rattle.param_tables.specs.declared.fault.ChangeFail.TheVariants as change_fail
use Rattle.param_tables.specs.Told.{NamesCell, refusal_told}
use Rattle.param_tables.specs.ChangeTold.{change_told}
use Rattle.data_changes.specs.Faults.{ChangesFault, RecordFault}
use Rattle.data_changes.specs.Records.{ToldChange}
use Rattle.data_changes.specs.declared.records.ToldChange.{ToldChange as ToldByPositions}
use Rattle.data_changes.specs.declared.fault.RecordStop.{RecordStop}
use Rattle.data_changes.specs.declared.fault.RecordStop.TheVariants as stop
use Rattle.data_changes.specs.Faults as rule
use Rattle.data_changes.specs.declared.fault.ChangesFault.{ChangesFault as ToldFault}
use Rattle.data_changes.specs.declared.fault.ChangesFail.{ChangesFail}
use Rattle.data_changes.specs.declared.fault.ChangesFail.TheVariants.{Fault, Memory}
use Rattle.data_changes.specs.declared.fault.RecordFault.{RecordFault as ToldRecordFault}
use Rattle.data_changes.specs.declared.fault.RecordFault.TheVariants.{AtIndex, BadChange, BadHeader, BadNumber, BadRecord, UnknownMember, UnknownName}

-- what is wrong with a record, by the names of these sets
abbrev pub record_fault_told : SetLists → ToldRecordFault → RecordFault
record_fault_told sets BadHeader = rule.BadHeader
record_fault_told sets BadRecord = rule.BadRecord
record_fault_told sets UnknownName = rule.UnknownName
record_fault_told sets UnknownMember = rule.UnknownMember
record_fault_told sets BadNumber = rule.BadNumber
record_fault_told sets BadChange = rule.BadChange
record_fault_told sets (AtIndex fault) = rule.AtIndex (refusal_told sets fault)

-- and with a file
abbrev pub fault_told : SetLists → ToldFault → ChangesFault
fault_told sets fault = record { number = fault.number; fault = record_fault_told sets fault.fault }

-- whatever the fault names is there
abbrev pub NamesIndex : SetLists → ToldRecordFault → Type 0
NamesIndex sets (AtIndex fault) = NamesCell sets fault
NamesIndex sets other = Unit {0}

-- the change as a record tells it
abbrev pub told_of : SetLists → ToldByPositions → ToldChange
told_of sets told = record { change = change_told sets told.change; rounded = told.rounded }

-- the failure is due to this fault; it may run out of memory at any time
abbrev pub IsChangesFailDue : Result Built ChangesFault → SetLists → ChangesFail → Type 0
IsChangesFailDue due sets (Fault fault) = (due ≡ Err (fault_told sets fault)) × NamesIndex sets fault.fault
IsChangesFailDue due sets Memory = Unit {0}

-- and so is a record's; private functions alone cite this
abbrev pub IsRecordStopDue : {A : Type 0} → Result A RecordFault → SetLists → RecordStop → Type 0
IsRecordStopDue due sets (stop.Fault fault) = (due ≡ Err (record_fault_told sets fault)) × NamesIndex sets fault
IsRecordStopDue due sets stop.Memory = Unit {0}

-- the stop that a failed change is
abbrev pub stop_of : ChangeFail → RecordStop
stop_of (change_fail.Fault fault) = stop.Fault (AtIndex fault)
stop_of change_fail.Memory = stop.Memory

-- the failure that a stop at the record of this number is
abbrev pub fail_of : ℕ → RecordStop → ChangesFail
fail_of number (stop.Fault fault) = Fault (record { number = number; fault = fault })
fail_of number stop.Memory = Memory
