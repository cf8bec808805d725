-- Run: what it leaves (Run), what is claimed of it (Claim), and how its function takes a step (Turn).
pub mod Run
pub mod Turn
pub mod Claim
