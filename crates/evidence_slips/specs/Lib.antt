pub mod Slip
pub mod RowsBytes
pub mod RowsRules
pub mod RowsOperators
pub mod RowsRuns
pub mod RowsTakedown
pub mod RowsTexts
pub mod Slips
