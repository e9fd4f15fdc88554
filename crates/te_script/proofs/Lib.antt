pub mod Places
pub mod StepsLeft
pub mod StepsInScope
pub mod EmitsDone
pub mod EmitsCounted
pub mod Replacing
pub mod Rebinding
pub mod Unwritten
pub mod CoreMoves
pub mod WishReached
mod WishesWorked
pub mod MoreChannels
pub mod WantsTold
pub mod Appending
pub mod OneMore
pub mod NodesPut
pub mod NamesMade
pub mod GeneratedKept
