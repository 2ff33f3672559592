-- Public: what public clauses say, and public definitions of other crates.
pub mod Scopes
pub mod Implications
pub mod Instances
pub mod Applying
pub mod Equalities
-- Private: what clauses of private functions cite, and how private fields are seen.
pub mod Parts
