pub mod Complement
pub mod ComplementLaws
