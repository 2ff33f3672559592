-- Public: what public clauses say, and public definitions of other crates.
pub mod Refutations
pub mod NamedRefutations
-- Laws: what follows from public definitions. Each is a clause of a function that does nothing.
pub mod Clashes
pub mod ClashLaws
-- Private: what clauses of private functions cite, and how private fields are seen.
pub mod Meetings
pub mod Refuting
pub mod Bindings
pub mod Supposing
pub mod Choosing
pub mod Dropping
pub mod Written
pub mod NamedSettings
