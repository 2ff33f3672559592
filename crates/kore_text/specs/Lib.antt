-- Public: what public clauses say, and public definitions of other crates.
pub mod TokenStream
pub mod Trees
pub mod Grammar
pub mod Depth
pub mod Faults
pub mod Remaining
pub mod TextLaws
pub mod Identifiers
-- Private: what clauses of private functions cite, and how private fields are seen.
pub mod Apart
pub mod Table
pub mod Stacks
pub mod Finding
