pub mod RuleLine
pub mod RuleTexts
pub mod States
pub mod Readers
pub mod Prepared
pub mod Alike
pub mod Laws
