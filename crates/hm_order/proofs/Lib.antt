-- handed on from crates/hm_shortest/proofs, for hm_minify, which doesn't list that crate
pub use Rattle.hm_shortest.proofs.Headline
pub mod Prices
pub mod Values
pub mod Split
pub mod Best
pub mod Numbers
pub mod Walks
pub mod Likes
pub mod Shortest
pub mod Alone
pub mod Places
pub mod InOrder
pub mod Savings
pub mod Weighed
pub mod Easy
pub mod Scans
