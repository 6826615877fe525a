pub mod Naming
pub mod Setting
pub mod Listed
pub mod Shows
pub mod Texts
pub mod Laws
