pub mod Loaded
pub mod Generated
mod Origins
pub mod Explaining
pub mod Seen
pub mod Tables
pub mod Measured
-- handed on from crates/hm_fragment/proofs, for hm_minify, which doesn't list that crate
pub use Rattle.hm_fragment.proofs.Fragments
pub use Rattle.hm_fragment.proofs.Framed
pub use Rattle.hm_fragment.proofs.Rewritten
