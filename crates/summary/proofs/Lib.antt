pub mod Carrying
pub mod Carried
pub mod Edges
pub mod ManyOffsets
pub mod WrongSummaries
pub mod SecondsAfter
