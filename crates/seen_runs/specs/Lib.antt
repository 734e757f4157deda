pub use Rattle.journal_seat.specs as journal_seat
pub use Rattle.runs.specs as runs
pub mod Seen
