-- The pair semv and jekv: a vertex divides an edge, and goes again. Begin with Relation, how the tables before and
-- after differ, and Exact, the two theorems. Accepted says what the operands must be; SemvColumns, JekvColumns and
-- Shown, that what the operators store is such a difference; SplitRules, Carried and Sound, that a table stays sound;
-- Unique, that each side settles the other.
pub mod Relation
pub mod Accepted
pub mod SemvColumns
pub mod JekvColumns
pub mod Shown
pub mod SplitRules
pub mod Carried
pub mod Sound
pub mod Unique
pub mod Exact
pub mod Balance
pub mod CycleMoves
pub mod Firsts
