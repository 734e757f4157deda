pub mod Elections
pub mod Commits
