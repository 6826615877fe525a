pub mod Tokens
pub mod Printed
pub mod Rows
pub mod Cut
pub mod Sorted
