pub mod Holding
pub mod Cutting
pub mod Driving
pub mod Turning
