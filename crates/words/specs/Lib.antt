-- Words of cells: the definitions (Kind, TwosComplement, Integer, Width, Literal, Convert), their laws (WidthLaws, Fits), what CONVERT claims (Closest) and its examples (ConvertLines).
pub mod Kind
pub mod TwosComplement
pub mod Integer
pub mod Width
pub mod Literal
pub mod Convert
pub mod WidthLaws
pub mod Fits
pub mod Closest
pub mod ConvertLines
