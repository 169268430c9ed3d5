pub mod Comparison
pub mod Reading
