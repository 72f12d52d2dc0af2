pub mod OneClock
pub mod Rig
pub mod WrongRigs
