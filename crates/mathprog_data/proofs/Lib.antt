mod Common
pub mod CellSteps
pub mod CouldStand
pub mod Drafts
pub mod Endings
pub mod FaultRecords
pub mod FaultTables
pub mod FaultTests
pub mod FaultsCarried
pub mod GoodLists
pub mod LastStatement
mod LexemeExamples
pub mod LexingByteLemmas
pub mod LexingClosing
mod LexingExamples
pub mod LexingLaws
pub mod LexingParse
pub mod LexingPlaced
pub mod LexingPlaces
pub mod LexingQuiet
pub mod LexingRunGaps
pub mod LexingRunQuotes
pub mod LexingRunTexts
pub mod LexingRunTokens
pub mod LexingSteps
pub mod LexingSymbols
pub mod NamesGo
pub mod NamesOnce
pub mod NumberReadingLaws
pub mod OptionalCommas
mod PieceExamples
pub mod PieceLaws
pub mod PieceLemmas
pub mod PieceSteps
pub mod ReadingLaws
pub mod ReadingLemmas
pub mod RunLaws
pub mod SaneSound
pub mod SectionMeans
pub mod SectionsSound
pub mod SectionsTaken
pub mod ShortNumbers
pub mod StatementFaultLaws
mod StatementLawsHold
pub mod StatementsGo
pub mod StatementsSound
pub mod StatementsTaken
pub mod SymbolLemmas
pub mod TablesSound
pub mod TablesTaken
mod TextExamples
pub mod TokenListLaws
pub mod TokenRunLemmas
pub mod TokensSeen
pub mod TurnLaws
pub mod SymbolBytes
mod ValueExamples
pub mod ValueLemmas
pub mod VerdictLaws
pub mod Verdicts
pub mod WalkLaws
pub mod Walks
mod WellFormedLaws
