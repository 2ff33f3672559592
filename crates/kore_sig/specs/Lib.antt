-- Public: what public clauses say, and public definitions of other crates.
pub mod FirstFault
pub mod Attributes
pub mod CountedModules
pub mod Declarations
pub mod SortReferences
pub mod SymbolKinds
pub mod Signatures
pub mod Numbered
pub mod SignatureFaults
pub mod Refusals
-- Laws: what follows from that. Each is a clause of a function that does nothing.
pub mod SignatureLaws
-- Private: what clauses of private functions cite, and how private fields are seen.
pub mod Sets
pub mod Naming
pub mod Placing
pub mod Knowing
pub mod UnknownSorts
pub mod Declaring
pub mod Ordering
pub mod Noted
