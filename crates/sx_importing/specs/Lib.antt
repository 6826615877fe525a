pub mod Each
pub mod KeptValues
pub mod ReadImports
pub mod ImportStops
pub mod MakeEnvironment
pub mod Laws
