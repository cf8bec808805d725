-- Where a row leads: Condition (a jump's condition, and refusal 21), Next (the row after a step).
pub mod Condition
pub mod Next
