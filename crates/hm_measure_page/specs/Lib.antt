pub mod Pages
pub mod Laws
pub mod Examples
