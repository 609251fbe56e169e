pub mod Clauses
pub mod Witness
pub mod RowsEdges
pub mod RowsFaces
pub mod Witnesses
pub mod Needless
