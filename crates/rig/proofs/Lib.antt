pub mod OneClock
pub mod Place
pub mod WrongRigs
