pub mod Building
pub mod Inside
pub mod BeforeBody
