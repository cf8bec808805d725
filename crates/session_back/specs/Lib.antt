-- Back: its looks and what it leaves (Back), and how its looks answer in the code (TakeBack).
pub mod Back
pub mod TakeBack
