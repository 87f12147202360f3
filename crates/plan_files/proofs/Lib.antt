mod Common
mod Examples
pub mod FieldLaws
pub mod KeyLaws
pub mod NamedLaws
pub mod PrintedValue
pub mod ReaderLaws
pub mod RecordSteps
pub mod RoundTrip
pub mod SoFarLaws
pub mod SubscriptLaws
pub mod TakenLaws
pub mod TellingLaws
pub mod TextLaws
pub mod ToldLaws
pub mod UniqueLaws
pub mod WithinLaws
pub mod WriterLaws
