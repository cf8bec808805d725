pub mod PositionLaws
pub mod CellsLaws
pub mod EntriesLaws
pub mod WritingLaws
pub mod RestoreLaws
