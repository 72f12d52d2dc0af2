-- A run over a history. Read Lines, Event, Run, then Filling; Repeated, Calls and Summaries state what they
-- come to, WrongRuns, WrongReplays, WrongKeepers and Examples what they shut out, Limits where their numbers
-- end.
pub mod Lines
pub mod Event
pub mod Run
pub mod Filling
pub mod Examples
pub mod Repeated
pub mod Calls
pub mod Summaries
pub mod WrongKeepers
pub mod WrongRuns
pub mod WrongReplays
pub mod Limits
pub mod Inner
