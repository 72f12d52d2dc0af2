-- The marked cases: a table, what it means that each of its rows holds, and that a row's tests refuse what
-- they should.
pub mod Cases
pub mod Tests
