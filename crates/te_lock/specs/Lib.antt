pub mod Gathered
pub mod Entries
pub mod Lock
pub mod Passes
pub mod Rule
