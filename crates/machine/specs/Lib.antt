-- One row on the cells: Families (one definition a family), Exchange (its free order), Outcome (any row), Condition (what decides a jump is what its step reads), Reach (what the functions ask for).
pub mod Families
pub mod Exchange
pub mod Reach
pub mod Outcome
pub mod Condition
