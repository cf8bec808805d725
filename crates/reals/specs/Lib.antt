-- REAL cells: the definitions (Real) and their laws (RealLaws, Fits).
pub mod Real
pub mod RealLaws
pub mod Fits
