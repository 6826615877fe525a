pub mod RuleLines
pub mod LastRules
pub mod Certificates
pub mod ComingLast
pub mod Promise
pub mod Agreeing
pub mod TypeErrors
