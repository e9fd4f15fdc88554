pub mod Reserving
pub mod ParkedLists
pub mod TakesFollow
