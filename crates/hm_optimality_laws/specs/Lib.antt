pub mod SpellingLaws
pub mod Forms
pub mod FormExamples
pub mod Dominated
pub mod Formats
pub mod SparseLaws
pub mod SparseExamples
