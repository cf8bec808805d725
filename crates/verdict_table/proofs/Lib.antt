-- Laws that the proofs share, and the chart's theorem.
pub mod CountLaws
pub mod Rows
pub mod Top
