-- A CALL: its arguments, its reply and the writes (Call), and what the functions ask for (Reach).
pub mod Call
pub mod Reach
