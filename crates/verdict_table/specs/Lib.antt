pub mod Forms
pub mod Chart
pub mod Place
pub mod Claim
