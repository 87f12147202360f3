-- The state of the code's reader of statements, without where it lies in memory.
use Rattle.std.specs.Prelude.{◌≡◌, ℕ, Bool, true, false, drop, Option, Some, None, Result, Ok, Err}
use Rattle.mathprog_data.specs.declared.statements.State.{State}
use Rattle.mathprog_data.specs.declared.statements.State.TheVariants as states
use Rattle.mathprog_data.specs.declared.statements.StatementReader.{StatementReader}
use Rattle.mathprog_data.specs.DraftViews.{draft_view}
use Rattle.mathprog_data.specs.MachineStates.{Open, Fresh, DataRead, Between, EndRead, Ended, SetRead, InSet, ParamRead, ParamNamed, DefaultRead, LeadingDefault, LeadingNumber, TabbingColon, TabbingNamed, InRecords, InPlain, PlaceDue, PlaceRead, ParenRead, TrRead, TrClosed, InColumns, InRows, InRow, Reader, Turn}
use Rattle.mathprog_data.specs.MachineSteps.{taken, reader}
use Rattle.mathprog_data.specs.Statements.{Form, Listed, Tabbing}

-- the form of the open parameter
abbrev pub form_view : Bool → Form
form_view true = Tabbing
form_view false = Listed

-- what is open in this state
abbrev pub open_in : State → StatementReader → Open
open_in states.Fresh r = Fresh
open_in states.DataRead r = DataRead
open_in states.Between r = Between
open_in states.EndRead r = EndRead
open_in states.Ended r = Ended
open_in states.SetRead r = SetRead
open_in states.InSet r = InSet r.item r.comma
open_in states.ParamRead r = ParamRead
open_in states.ParamNamed r = ParamNamed r.item r.comma
open_in states.DefaultRead r = DefaultRead r.item
open_in states.LeadingDefault r = LeadingDefault
open_in states.LeadingNumber r = LeadingNumber r.leading r.comma
open_in states.TabbingColon r = TabbingColon r.leading
open_in states.TabbingNamed r = TabbingNamed r.item r.comma
open_in states.InRecords r = InRecords (form_view r.tabbing) r.item r.slice.items r.comma
open_in states.InPlain r = InPlain (form_view r.tabbing) r.item r.slice.items r.names.items r.mark r.left r.comma
open_in states.PlaceDue r = PlaceDue r.item r.slice.items r.left
open_in states.PlaceRead r = PlaceRead r.item r.slice.items r.left
open_in states.ParenRead r = ParenRead r.item r.slice.items
open_in states.TrRead r = TrRead r.item r.slice.items
open_in states.TrClosed r = TrClosed r.item r.slice.items
open_in states.InColumns r = InColumns r.item r.slice.items r.transposed r.columns.items r.comma
open_in states.InRows r = InRows r.item r.slice.items r.transposed r.columns.items r.comma
open_in states.InRow r = InRow r.item r.slice.items r.transposed r.columns.items r.row r.mark (drop r.cells r.columns.items) r.comma

-- what is open
abbrev pub open_view : StatementReader → Open
open_view r = open_in r.state r

-- the machine
abbrev pub reader_view : StatementReader → Reader
reader_view r = reader (open_view r) (draft_view r.draft)

-- what an answer says: the number of a fault, or that the machine went on to this
abbrev pub outcome : Option ℕ → Reader → Result Reader ℕ
outcome None r = Ok r
outcome (Some fault) r = Err fault

-- the answer and the new state are those of this turn
abbrev pub Turned : StatementReader → Turn → Option ℕ → StatementReader → Type 0
Turned before turn fault after = taken (draft_view before.draft) turn ≡ outcome fault (reader_view after)
