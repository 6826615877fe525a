pub mod OptionLaws
pub mod CommandLaws
pub mod MisfitLaws
pub mod ColonLaws
pub mod KindLaws
pub mod TurnLaws
pub mod OneAnswer
pub mod FewLaws
