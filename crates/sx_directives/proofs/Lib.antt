mod PartLaws
mod SpellingLaws
mod RowLaws
mod KeywordLaws
pub mod BodyLaws
