-- The pair mev and kev: an edge to a vertex of its own (a spur) goes in and comes out. Begin with Relation, what a spur
-- is, and Exact, the two theorems. Accepted says what the operands must be and what the operators store; Sound and
-- Rules, why a table stays sound. That each undoes the other is a law about stores (WriteBack of crate sound_tables).
pub mod Relation
pub mod MevAccepted
pub mod KevAccepted
pub mod MevRules
pub mod KevRules
pub mod MevSound
pub mod KevSound
pub mod Exact
pub mod Balance
