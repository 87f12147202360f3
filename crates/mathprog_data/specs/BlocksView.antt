-- What blocks in memory say, as plain lists.
use Rattle.std.specs.Prelude.{List, map}
use Rattle.mathprog_data.specs.declared.blocks.SetBlock.{SetBlock as KeptSet}
use Rattle.mathprog_data.specs.declared.blocks.ParamBlock.{ParamBlock as KeptParam}
use Rattle.mathprog_data.specs.declared.blocks.Blocks.{Blocks as KeptBlocks}
use Rattle.mathprog_data.specs.Meaning.{SetBlock, ParamBlock, Blocks}

-- what a block says of its set
abbrev pub set_told : KeptSet → SetBlock
set_told block = record { set = block.set; members = block.members.items }

-- what a block says of its parameter
abbrev pub param_told : KeptParam → ParamBlock
param_told block = record { param = block.param; default = block.default; values = block.values }

-- what blocks say of sets
abbrev pub sets_told : List KeptSet → List SetBlock
sets_told blocks = map set_told blocks

-- what blocks say of parameters
abbrev pub params_told : List KeptParam → List ParamBlock
params_told blocks = map param_told blocks

-- what the blocks say
abbrev pub blocks_told : KeptBlocks → Blocks
blocks_told blocks = record {
  sets = sets_told blocks.sets.items;
  params = params_told blocks.params.items;
  rounded = blocks.rounded;
}
