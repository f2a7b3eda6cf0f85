pub mod References
pub mod Values
pub mod Texts
pub mod Tags
pub mod Pages
pub mod PageTexts
pub mod PageTextExamples
pub mod ReadBack
-- handed on from crates/hm_construction_laws/specs, for hm_shortest, which doesn't list that crate
pub use Rattle.hm_construction_laws.specs.Trees
