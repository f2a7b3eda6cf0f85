-- handed on from crates/hm_shortest/specs, for hm_minify, which doesn't list that crate
pub use Rattle.hm_shortest.specs.Minified
pub use Rattle.hm_shortest.specs.Shortest
-- handed on from crates/hm_graph_laws/specs, for hm_minify, which doesn't list that crate
pub use Rattle.hm_graph_laws.specs.ExchangeLaws
pub use Rattle.hm_graph_laws.specs.Units
-- handed on from crates/hm_spelling_spec/specs, for hm_minify, which doesn't list that crate
pub use Rattle.hm_spelling_spec.specs.Spellings
pub use Rattle.hm_spelling_spec.specs.Tags
pub mod Costs
pub mod Orders
pub mod Places
pub mod Alone
pub mod Weights
pub mod Laws
pub mod Examples
