pub mod EveryEvent
pub mod RigEvent
pub mod WrongRigs
