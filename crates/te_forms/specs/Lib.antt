pub mod Rings
pub mod Keeping
pub mod Forms
pub mod Privacy
pub mod Guards
pub mod Handing
pub mod Reading
pub mod Commits
