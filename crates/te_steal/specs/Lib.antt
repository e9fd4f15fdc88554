pub mod Relays
pub mod Accounts
pub mod Rule
pub mod Owners
pub mod Stolen
