pub mod Linking
pub mod Seeking
