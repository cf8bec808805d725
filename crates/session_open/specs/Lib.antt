-- Open: its looks and what it leaves (Open), and what the loops that zero the cells have reached (Zero).
pub mod Open
pub mod Zero
