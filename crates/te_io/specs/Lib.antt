pub mod Causes
pub mod InMemory
pub mod StdEnds
pub mod Stream
