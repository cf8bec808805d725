-- Labels: Labels (which rows have one, where a label's row is, refusal 20), Chains (how they are found without comparing every two rows), Targets (where the jumps lead, kept).
pub mod Labels
pub mod Chains
pub mod Targets
