-- A text that is sent piece by piece.
use Rattle.osemosys_run.proofs.Common.{◌≡◌, ℕ, ◌+◌, ◌≤◌, List, ◌++◌, length, take, drop, ap, sym, ◌∙◌, take_all, Output, Took, took-both, took-same}
use Rattle.std.specs.Prelude.{Result, Ok, Err, OnErr}
use Rattle.std.proofs.Math.Seq.{take-add}

-- a prefix of what was left over comes after the prefix that was sent
pub sent_more : (start before after : Output) (text : List ℕ) (sent n : ℕ) (piece : List ℕ) → piece ≡ drop sent text → Took start before (take sent text) → Took before after (take n piece)
    → Took start after (take (sent + n) text)
sent_more start before after text sent n piece e first next =
    took-same start after (take sent text ++ take n piece) (take (sent + n) text) (ap (λ (rest : List ℕ). take sent text ++ take n rest) e ∙ sym (take-add sent n text))
    (took-both start before after (take sent text) (take n piece) first next)

-- where no more is left, the text was sent
pub sent_all : (start now : Output) (text : List ℕ) (sent : ℕ) → length text ≤ sent → Took start now (take sent text) → Took start now text
sent_all start now text sent all took = took-same start now (take sent text) text (take_all sent text all) took

-- what holds anyhow holds at an error
pub at_error : {T E : Type 0} (outcome : Result T E) (P : Type 0) → P → OnErr outcome P
at_error (Ok x) P p = tt
at_error (Err e) P p = p
