pub mod LineLaws
pub mod ShownLaws
pub mod Beyond
pub mod Alike
pub mod Joined
