-- Public: what public clauses say.
pub mod Guards
-- Private: what clauses of private functions cite.
pub mod Implications
pub mod Repeated
pub mod Bodies
