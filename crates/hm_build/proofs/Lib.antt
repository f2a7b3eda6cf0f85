mod Room
mod Reading
mod Turns
mod Names
mod Closings
mod PageEnds
pub mod Coming
pub mod Growth
pub mod PartTurns
mod PartClosings
mod PartRests
pub mod Builders
pub mod Whole
