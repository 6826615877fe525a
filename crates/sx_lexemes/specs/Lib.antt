pub mod Lexemes
pub mod Laws
