-- What the code's reader of pieces knows, without where it lies in memory.
use Rattle.std.specs.Prelude.{◌≡◌, ℕ, ◌*◌, ◌≤◌, ⊤}
use Rattle.mathprog_data.specs.declared.fault.ReadFail.TheVariants.{Fault, Memory}
use Rattle.mathprog_data.specs.declared.pieces.Stage.{Stage}
use Rattle.mathprog_data.specs.declared.pieces.Stage.TheVariants as stages
use Rattle.mathprog_data.specs.declared.span_reader.SpanReader.{SpanReader}
use Rattle.mathprog_data.specs.DraftViews.{draft_view}
use Rattle.mathprog_data.specs.LexingMachine.{State, token_from}
use Rattle.mathprog_data.specs.MachineStates.{drafted}
use Rattle.mathprog_data.specs.MachineViews.{reader_view}
use Rattle.mathprog_data.specs.PieceRuns.{IsKept}
use Rattle.mathprog_data.specs.Pieces.{Standing, Going, Settled, Failed}
use Rattle.mathprog_data.specs.ReadingRuns.{Reads, Refuses}

-- what is known at this stage
abbrev pub standing_of : Stage → State → SpanReader → Standing
standing_of stages.Going s spans = Going s spans.tokens.closing (reader_view spans.tokens.statements) spans.kept.items
standing_of stages.Closed s spans = Settled (Reads (drafted (draft_view spans.tokens.statements.draft)))
standing_of (stages.Failed (Fault fault)) s spans = Settled (Refuses fault.no fault.at)
standing_of (stages.Failed Memory) s spans = Failed

-- while the text goes on, the lexer has taken the bytes fed, the bytes of the open token are kept, and at most two numbers were
-- rounded for each byte
abbrev pub IsReady : Stage → (fed : ℕ) → State → SpanReader → Type 0
IsReady stages.Going fed s spans =
    (s.place ≡ fed) × IsKept fed spans.kept.items (token_from s) × (spans.tokens.statements.draft.rounded ≤ 2 * fed)
IsReady stages.Closed fed s spans = ⊤
IsReady (stages.Failed fail) fed s spans = ⊤

-- what always holds of the parts of a reader
abbrev pub IsSound : Stage → (fed : ℕ) → State → SpanReader → Type 0
IsSound stage fed s spans = (fed ≤ 67108864) × IsReady stage fed s spans
