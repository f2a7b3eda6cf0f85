pub mod Bytes
pub mod Dropped
pub mod Faults
pub mod LeadingSpace
pub mod Lines
pub mod Mark
pub mod Page
pub mod Places
