pub mod Gaps
pub mod Readable
pub mod LineEnds
pub mod WrittenLines
