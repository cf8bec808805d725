-- Laws that the proofs share, here and in the crates above.
pub mod SetLaws
pub mod PlaceLaws
pub mod InsertLaws
pub mod PairedLaws
pub mod WrittenLaws
