pub mod UnitLaws
pub mod RollLaws
pub mod TickLaws
pub mod TickCases
pub mod SettingCases
pub mod JumpLaws
pub mod RunLaws
