-- Public: what public clauses say, and public definitions of other crates.
pub mod Only
pub mod Tokens
-- Private: what clauses of private functions cite, and how private fields are seen.
pub mod Digits
pub mod Values
pub mod Injections
pub mod Hooks
pub mod Constructors
pub mod Sides
pub mod Closing
