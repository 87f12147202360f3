-- Why the reading of a file ends where it wasn't begun.
use Rattle.io_edges.specs.declared.traits.OpenFault.{OpenFault}
use Rattle.io_edges.specs.declared.traits.OpenFault.TheVariants as opening
use Rattle.request_files.specs.declared.whole.ReadEnd.{ReadEnd}
use Rattle.request_files.specs.declared.whole.ReadEnd.TheVariants.{NoFile, Failed, Memory}

abbrev pub end_at : OpenFault → ReadEnd
end_at opening.NoFile = NoFile
end_at opening.Failed = Failed
end_at opening.Memory = Memory
