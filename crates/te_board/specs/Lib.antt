pub mod Boards
pub mod BoardCode
pub mod Denials
