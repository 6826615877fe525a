pub mod Commands
pub mod Reading
pub mod View
pub mod Texts
pub mod Lines
pub mod RefusalText
