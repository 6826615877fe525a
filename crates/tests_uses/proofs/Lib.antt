mod Fitting
mod Compared
mod FirstExtension
mod FromHeld
