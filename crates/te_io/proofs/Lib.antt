pub mod PiecesRead
pub mod PiecesWritten
