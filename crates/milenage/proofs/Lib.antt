pub mod SizeLaws
pub mod Refused
pub mod Written
pub mod QuestionLaws
pub mod BlockLaws
pub mod ScratchLaws
