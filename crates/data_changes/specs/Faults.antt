-- Why a file of changes is refused.
use Rattle.std.specs.Prelude.{ℕ}
use Rattle.param_tables.specs.Refusals.{Refusal}

-- what is wrong with a record
pub data RecordFault : Type 0 where
  -- record 1 isn't a header: a field is no column's name, or stands twice, or the column of names, of changes or of values is missing
  BadHeader : RecordFault
  -- it has more or fewer fields than the header, or names members in a column that its parameter has not
  BadRecord : RecordFault
  -- it names no parameter that is used in the data
  UnknownName : RecordFault
  -- it names a member that the data don't have
  UnknownMember : RecordFault
  -- its value is no number of a data file
  BadNumber : RecordFault
  -- its change is none of `=`, `*` and `+`
  BadChange : RecordFault
  -- a value that it makes is refused
  AtIndex : Refusal → RecordFault

-- the record, counted from 1, which is the header, and what is wrong with it
pub record ChangesFault : Type 0 where
  pub number : ℕ
  pub fault : RecordFault
