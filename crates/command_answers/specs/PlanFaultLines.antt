-- The lines that say why a file of a plan, of multipliers, or of a proof is refused.
use Rattle.std.specs.Prelude.{ℕ, List, ◌++◌, codes}
use Rattle.std.specs.Fmt.{decimal}
use Rattle.model_sets.specs.Members.{SetLists}
use Rattle.mps_writer.specs.MpsText.{line}
use Rattle.row_core.specs.NameTexts.{variable_name}
use Rattle.plan_files.specs.declared.faults.PlanFault.{PlanFault}
use Rattle.plan_files.specs.declared.faults.PlanFault.TheVariants.{BadRecord, UnknownVar, Twice, BadValue, Missing}

-- the rule of a record that a file breaks
abbrev pub record_fault_text : ℕ → List ℕ → List ℕ
record_fault_text number fault = codes "record " ++ decimal number ++ codes " " ++ fault

-- which rule a file breaks, and where
abbrev pub fault_text : SetLists → PlanFault → List ℕ
fault_text sets (BadRecord number) = record_fault_text number (codes "BadRecord")
fault_text sets (UnknownVar number) = record_fault_text number (codes "UnknownVar")
fault_text sets (Twice number) = record_fault_text number (codes "Twice")
fault_text sets (BadValue number) = record_fault_text number (codes "BadValue")
fault_text sets (Missing v) = codes "Missing " ++ variable_name sets v

abbrev pub plan_fault_line : SetLists → PlanFault → List ℕ
plan_fault_line sets fault = line (codes "refused plan " ++ fault_text sets fault)

abbrev pub multiplier_fault_line : SetLists → PlanFault → List ℕ
multiplier_fault_line sets fault = line (codes "refused multipliers " ++ fault_text sets fault)

abbrev pub proof_fault_line : SetLists → PlanFault → List ℕ
proof_fault_line sets fault = line (codes "refused proof " ++ fault_text sets fault)
