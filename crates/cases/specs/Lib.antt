pub mod Functions
pub mod Places
pub mod Opc
pub mod Opened
pub mod KernelCases
