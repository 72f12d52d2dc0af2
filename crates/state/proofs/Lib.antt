pub mod DeviceLaws
pub mod Ok
