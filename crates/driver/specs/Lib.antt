pub mod Yields
pub mod Seen
pub mod Driven
pub mod Called
pub mod Opened
pub mod Runs
pub mod Promises
