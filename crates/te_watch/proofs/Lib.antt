pub mod Shadowing
pub mod OneName
pub mod Counting
pub mod NewsPublished
