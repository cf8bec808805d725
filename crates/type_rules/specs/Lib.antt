pub mod Numbers
pub mod Judgement
pub mod Rule
pub mod Looks
pub mod Codes
