-- The theorem is in Sound.antt; the files before it are its parts, from the layout up.
pub mod Regions
pub mod Zeros
pub mod Codes
pub mod Results
pub mod Values
pub mod Families
pub mod Operands
pub mod Rows
pub mod CallRefusals
pub mod Calls
pub mod Sound
pub mod Access
pub mod Counts
