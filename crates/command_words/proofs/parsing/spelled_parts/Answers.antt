use Rattle.command_words.proofs.WordSpelling.{has_spelled_parts}
use Rattle.command_words.proofs.parsing.spelled_parts.Goals as goal

pub returns : goal.returns
returns c = has_spelled_parts
