mod Nodes
mod Rows
mod Comparing
mod ImageNodes
mod SeenTerms
mod NameWords
mod EnvironmentTerms
pub mod BaseEnvironments
mod Lists
mod Refusing
mod OneSeen
pub mod OneEnvironment
mod RowLines
