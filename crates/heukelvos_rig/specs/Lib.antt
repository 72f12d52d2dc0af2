pub mod RigEvent
pub mod WrongRigs
