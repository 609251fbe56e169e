-- mekr and kemr. Two tables that differ by a bridge (Relation). From the one's soundness the other's: the rules with
-- dummies (PassedOver, CornerMembers, MekrRules, Runs, KemrDummies, KemrRules), then the rest (MekrSound, KemrSound).
-- What the operators leave, as columns (MekrColumns, KemrColumns) and as lists that show them (MekrShown, KemrShown);
-- when they are accepted (MekrAccepted, KemrAccepted); each table settles the other (Unique); the theorems (Exact);
-- and what they do to the words of vertices (Balance).
pub mod Relation
pub mod PassedOver
pub mod CornerMembers
pub mod Runs
pub mod MekrRules
pub mod MekrSound
pub mod MekrColumns
pub mod MekrShown
pub mod KemrDummies
pub mod KemrRules
pub mod KemrSound
pub mod KemrColumns
pub mod KemrShown
pub mod Unique
pub mod MekrAccepted
pub mod KemrAccepted
pub mod Exact
pub mod Balance
