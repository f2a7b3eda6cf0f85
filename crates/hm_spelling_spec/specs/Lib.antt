pub mod Characters
pub mod Tags
pub mod Omission
pub mod Spellings
pub mod PageExamples
pub mod WrongTexts
pub mod Examples
