pub mod Checksum
pub mod Count
pub mod Later
pub mod Values
