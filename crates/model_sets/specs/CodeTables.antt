-- What the code's tables of words say. Private functions alone cite these definitions.
use Rattle.std.specs.Prelude.{ℕ, List, map}
use Rattle.std.specs.Borrow.{Bor}
use Rattle.model_sets.specs.Params.{Param}
use Rattle.model_sets.specs.declared.params.Range.{Range}
use Rattle.model_sets.specs.declared.params.Use.{Use}

-- the parameter that an entry of the table describes
abbrev pub described_param : Bor (List ℕ) × Bor (List ℕ) × Range × Use → Param
described_param (word, subscripts, range, used) = record { word = word.now; subscripts = subscripts.now; range = range; used = used }

-- the bytes of each text
abbrev pub texts_of : List (Bor (List ℕ)) → List (List ℕ)
texts_of texts = map (λ text. text.now) texts
