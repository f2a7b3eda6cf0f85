pub mod Ready
pub mod Standing
pub mod PartLaws
pub mod ReadyExamples
pub mod Modes
pub mod Reading
pub mod Parts
pub mod Steps
-- handed on from crates/hm_scan/specs, for hm_build, which doesn't list that crate
pub use Rattle.hm_scan.specs.Texts
