-- Laws of the references and of the walk, for the proofs here and in the crates above.
pub mod ReferenceLaws
pub mod WalkLaws
pub mod BatchLaws
