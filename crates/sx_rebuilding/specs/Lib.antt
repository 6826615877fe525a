pub mod Again
pub mod VerifyAgain
pub mod GivenAgain
