pub mod CallLemmas
pub mod EdgeLemmas
pub mod FileLemmas
pub mod LoadLemmas
pub mod MemStoreLemmas
pub mod NamedFileLemmas
pub mod ResultLemmas
pub mod TearLemmas
