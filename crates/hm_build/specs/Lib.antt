pub mod Parsing
pub mod Feeding
-- handed on from crates/hm_construction_laws/specs, for hm_page_loading and hm_check, which don't list that crate
pub use Rattle.hm_construction_laws.specs.Trees
