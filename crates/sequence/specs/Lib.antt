pub mod Calls
pub mod Replay
pub mod Journal
pub mod Claim
pub mod JournalLength
pub mod BenchRun
pub mod Bench
