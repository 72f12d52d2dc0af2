pub mod Demand
pub mod TwoRecorders
pub mod WrongRigs
