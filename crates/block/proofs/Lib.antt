pub mod ByteLaws
pub mod NumberLaws
pub mod GroundLaws
pub mod Made
