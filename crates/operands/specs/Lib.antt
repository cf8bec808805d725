-- A row's operands: Cells (what is read and written), Kinds (what the regions declare of each cell), Typed (cells of these kinds), Address (where operands
-- lie), Reach (what the functions ask for).
pub mod Cells
pub mod Kinds
pub mod Typed
pub mod Address
pub mod Reach
