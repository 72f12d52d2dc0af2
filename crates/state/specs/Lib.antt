-- Document 01's state: its kinds of number, its ranges and what a fresh clock has; document 02's devices.
-- What happens to it is in the crates `clock` and `request`.
pub mod Units
pub mod Refusal
pub mod Device
pub mod State
pub mod Fresh
pub mod Limits
pub mod Inner
