-- How long a journal to buy: Entries (what is counted for a row and for a program), Length (the call's looks and its answer).
pub mod Entries
pub mod Length
