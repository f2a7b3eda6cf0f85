pub mod DumpLemmas
pub mod GivenLemmas
pub mod RunLemmas
