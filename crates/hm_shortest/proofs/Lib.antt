pub mod Walking
pub mod Prices
pub mod Rows
pub mod FromLast
pub mod FirstWay
mod Forced
pub mod Alike
mod CopiedWay
pub mod Ends
pub mod Headline
pub mod Graphs
pub mod Written
pub mod FewChoices
pub mod Joined
pub mod Directly
pub mod Whole
pub mod Found
pub mod Parts
