pub mod Label
pub mod Writing
pub mod Reading
pub mod Inner
pub mod Properties
