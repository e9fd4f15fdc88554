pub mod Shadows
pub mod Watches
pub mod WatchCode
pub mod Views
pub mod Ledgers
pub mod Naming
pub mod Publications
