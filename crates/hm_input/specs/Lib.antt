pub mod Inputs
pub mod Loads
pub mod Reasons
pub mod Explaining
pub mod Examples
-- handed on from crates/hm_fragment/specs, for hm_minify, which doesn't list that crate
pub use Rattle.hm_fragment.specs.Fragments
pub use Rattle.hm_fragment.specs.Frames
pub use Rattle.hm_fragment.specs.Laws
-- handed on from crates/hm_construction_laws/specs by way of hm_fragment, for hm_minify, which lists neither
pub use Rattle.hm_fragment.specs.Trees
-- handed on from crates/hm_page_loading/specs, for hm_minify, which doesn't list that crate
pub use Rattle.hm_page_loading.specs.Pages
-- handed on from crates/hm_options/specs, for hm_minify, which doesn't list that crate
pub use Rattle.hm_options.specs.Rewrites
