pub mod Extent
pub mod Asking
pub mod Refused
