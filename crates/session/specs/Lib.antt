-- What open, forward, back and run share: Prepare (the looks that they begin with), Position (the looks at a position), Leaves (what a call leaves), Answer (the numbers), Session (what is
-- lent from call to call).
pub mod Answer
pub mod Prepare
pub mod Position
pub mod Leaves
pub mod Session
