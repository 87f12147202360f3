-- The code's draft, without where it lies in memory.
use Rattle.std.specs.Prelude.{map}
use Rattle.mathprog_data.specs.declared.statements.draft.Draft.{Draft as TheDraft}
use Rattle.mathprog_data.specs.MachineStates.{Draft}
use Rattle.mathprog_data.specs.BlocksView.{set_told, param_told}

-- a draft
abbrev pub draft_view : TheDraft → Draft
draft_view d = record {
  members = d.members.items;
  default = d.default;
  values = d.values;
  sets = map set_told d.sets.items;
  params = map param_told d.params.items;
  rounded = d.rounded;
}
