-- Refusal 2: the words of regions, externs, parameters, nodes and arguments (Allowed), a node's children (Children), an instruction's words (Instruction).
pub mod Allowed
pub mod Children
pub mod Instruction
