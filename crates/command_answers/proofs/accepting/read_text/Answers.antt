use Rattle.std.proofs.Common.{List, ℕ, [], subst}
use Rattle.mathprog_data.specs.Pieces.{StandsFor}
use Rattle.command_answers.proofs.accepting.read_text.Goals as goal

pub returns : goal.returns
returns c = subst (λ (text : List ℕ). StandsFor c.feed.new.self text) c.deref.ensures.value (c.feed.ensures.stands [] c.in_ok-reader.ensures.stands)
