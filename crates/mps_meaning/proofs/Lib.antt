pub mod LineLaws
mod MeetingExamples
pub mod NumberedLaws
pub mod PrintedLaws
mod ReadingExamples
pub mod SectionLaws
