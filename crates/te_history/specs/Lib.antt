pub mod State
pub mod Follows
pub mod Histories
pub mod HistoryCode
pub mod Refusals
pub mod Room
pub mod Givings
pub mod Kept
