pub mod Rounds
pub mod Houses
pub mod Runs
pub mod Finishing
pub mod FreshChannels
