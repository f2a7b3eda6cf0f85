pub mod First
pub mod Laws
pub mod Readings
pub mod Decided
pub mod Written
pub mod Examples
pub mod LawExamples
