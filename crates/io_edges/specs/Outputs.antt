-- What a sink took, and what was written where it tells that.
use Rattle.std.specs.Prelude.{◌≡◌, ℕ, ◌≤◌, List, ◌++◌, length, take, Option, Some}
use Rattle.io_edges.specs.Told.{WhereTold}

-- what a sink is seen to have written, where it tells that, and to have taken, which it always tells
pub record Output : Type 0 where
  pub written : Option (List ℕ)
  pub accepted : List ℕ

-- an output by its parts
abbrev pub output : Option (List ℕ) → List ℕ → Output
output written accepted = record { written = written; accepted = accepted }

-- the sink took this text and nothing else: it comes after what was taken before, and after what was written before, where that is told
pub record Took (before after : Output) (text : List ℕ) : Type 0 where
  pub accepted : after.accepted ≡ before.accepted ++ text
  pub written : WhereTold before.written (λ bytes. after.written ≡ Some (bytes ++ text))

-- it took a prefix of the text and nothing else
abbrev pub TookPrefix : Output → Output → List ℕ → Type 0
TookPrefix before after text = (n : ℕ) × (n ≤ length text) × Took before after (take n text)
