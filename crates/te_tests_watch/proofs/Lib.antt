pub mod PassesGrow
pub mod Sending
