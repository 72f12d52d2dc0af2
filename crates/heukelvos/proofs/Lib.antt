pub mod Kept
pub mod OneTick
