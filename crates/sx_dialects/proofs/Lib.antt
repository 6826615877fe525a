pub mod LanguagesBegun
pub mod DialectsGrown
