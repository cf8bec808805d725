-- Forward: its looks and what it leaves (Forward), and what its functions ask for and answer (Step).
pub mod Forward
pub mod Step
