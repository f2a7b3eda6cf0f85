pub mod Adding
pub mod Around
pub mod Events
pub mod Found
pub mod Laws
pub mod Likely
pub mod Parts
pub mod UnitText
