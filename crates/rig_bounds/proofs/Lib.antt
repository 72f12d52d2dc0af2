pub mod Theorem
pub mod TwoRecorders
pub mod WrongRigs
