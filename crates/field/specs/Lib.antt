pub mod Field
pub mod Inverses
