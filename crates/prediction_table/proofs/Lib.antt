pub mod DateTexts
pub mod RowTexts
