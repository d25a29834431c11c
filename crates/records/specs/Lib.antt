-- Replacement records (Rules 5.3, 5.6), and the tests that a push makes of them.
pub mod Records
pub mod Listed
pub mod Tests
