pub mod State
pub mod Schedule
pub mod Cipher
pub mod Laws
pub mod CipherLaws
pub mod StateLaws
