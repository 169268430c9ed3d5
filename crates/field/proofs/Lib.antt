pub mod Every
pub mod FieldLaws
pub mod Tables
