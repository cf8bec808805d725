-- Refusal 1 (Shape), 2 for the nodes of a walk (Expression) and a chosen row, 3, and the order of 1, 2 and 3 (Load).
pub mod Shape
pub mod Expression
pub mod Load
