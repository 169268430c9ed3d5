pub mod Bytes
pub mod RoundKeys
pub mod ScheduleLaws
