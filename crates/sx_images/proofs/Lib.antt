pub mod Noting
pub mod Known
pub mod Parts
pub mod KidMeasures
pub mod KidsFilled
pub mod KidImages
