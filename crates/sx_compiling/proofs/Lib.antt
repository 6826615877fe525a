pub mod Members
mod RuleTries
pub mod StepTries
pub mod BaseHeaders
pub mod LoweredGoals
pub mod Digests
pub mod NamedImports
mod LineTexts
mod Grammars
mod InterfaceMarks
pub mod InterfaceTexts
pub mod UnitInterfaces
pub mod MadeUnits
pub mod Headlines
pub mod Agreeing
pub mod TypeErrors
pub mod FewTries
mod Counted
mod ImportsGiven
mod SeenGiven
pub mod GivenAlike
mod DerivationLists
pub mod SameSteps
pub mod KeptReads
