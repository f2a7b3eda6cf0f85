pub mod Frames
pub mod Fragments
pub mod Examples
pub mod Laws
-- handed on from crates/hm_construction_laws/specs, for hm_input, which doesn't list that crate
pub use Rattle.hm_construction_laws.specs.Trees
