pub mod RowsExchange
pub mod RowsFilter
pub mod RowsCaughtTrap
pub mod HistoriesWorked
pub mod FirstRound
mod ReportsWorked
mod RoundsWorked
mod BlocksRefused
mod RoundEndsRefused
pub mod StuckEnds
pub mod AnswersTold
pub mod NumbersGiven
pub mod RowsFound
pub mod CommandMade
pub mod PostsCounted
pub mod WithdrawalsCounted
pub mod SyncsCounted
pub mod RoomForScripts
pub mod FirstRun
pub mod RunsCompleted
pub mod EntriesCounted
pub mod GeneratedScripts
pub mod WordsOnce
pub mod RulesFound
pub mod PartsRead
pub mod CallsEnded
pub mod ParkedRise
pub mod GroupsCommit
pub mod DeclaredTruly
pub mod ReportsChecked
pub mod InputsTold
