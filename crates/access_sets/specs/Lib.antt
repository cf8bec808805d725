pub mod Set
pub mod Inner
pub mod Access
pub mod Laws
