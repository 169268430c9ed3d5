pub mod Functions
pub mod Question
pub mod Blocks
pub mod Grounds
pub mod Calls
pub mod Views
pub mod Laws
