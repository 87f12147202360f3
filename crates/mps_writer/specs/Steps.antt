-- A text that goes into a sink by way of a buffer. Only private functions cite these.
use Rattle.std.specs.Prelude.{◌≡◌, ℕ, ◌≤◌, List, ◌++◌, Result, Ok, Err}
use Rattle.io_edges.specs.Count.{Rose}
use Rattle.io_edges.specs.Outputs.{Output, Took}
use Rattle.mps_writer.specs.declared.sending.MpsFail.{MpsFail}
use Rattle.mps_writer.specs.declared.sending.MpsFail.TheVariants.{Write, Memory}

-- of the whole text the sink took a first part, and this is left
pub record LeavesOf (whole : List ℕ) (before after : Output) (left : List ℕ) : Type 0 where
  pub sent : List ℕ
  pub took : Took before after sent
  pub split : sent ++ left ≡ whole

-- something is left of it
abbrev pub CutsOf : List ℕ → Output → Output → Type 0
CutsOf whole before after = (left : List ℕ) × LeavesOf whole before after left

-- A write failed, or memory ran out, with a part of the text written; and the count of faults didn't fall.
abbrev pub Fails : List ℕ → MpsFail → Output → Output → ℕ → ℕ → Type 0
Fails whole Write before after faults_before faults_after = CutsOf whole before after × (faults_before ≤ faults_after) × Rose faults_before faults_after
Fails whole Memory before after faults_before faults_after = CutsOf whole before after × (faults_before ≤ faults_after)

-- The text was taken up to what is left, or that failed; and the count of faults didn't fall.
abbrev pub Takes : {A : Type 0} → List ℕ → Result A MpsFail → Output → Output → ℕ → ℕ → List ℕ → Type 0
Takes whole (Ok x) before after faults_before faults_after left = LeavesOf whole before after left × (faults_before ≤ faults_after)
Takes whole (Err fail) before after faults_before faults_after left = Fails whole fail before after faults_before faults_after
