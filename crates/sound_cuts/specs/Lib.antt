-- mef and kef. Read `Relation` first, then the rules that hold with and without the edge, then what the operators
-- store, and last the operators themselves.
pub mod FieldLaws
pub mod Relation
pub mod Seats
pub mod Spur
pub mod MefRules
pub mod MefSolids
pub mod MefSound
pub mod KefRules
pub mod KefSolids
pub mod KefSound
pub mod Round
pub mod MefPlace
pub mod MefShown
pub mod KefShown
pub mod KefPlace
pub mod KefRelation
pub mod MefOperands
pub mod MefFacts
pub mod MefAccepted
pub mod KefAccepted
pub mod Exact
pub mod MefHolds
pub mod KefAmid
pub mod Balance
