-- Public: what public clauses say, and public definitions of other crates.
pub mod Tokens
pub mod Images
pub mod Sentences
pub mod NamedSides
pub mod PartNames
pub mod Premises
pub mod LastResorts
pub mod OwnAxioms
pub mod Sides
pub mod TrueFacts
pub mod Assumed
pub mod HasImages
pub mod Gained
pub mod OwnTokens
-- Laws: what follows from that. Each is a clause of a function that does nothing.
pub mod NamingLaws
pub mod ConditionLaws
pub mod ApartLaws
-- Private: what clauses of private functions cite, and how private fields are seen.
pub mod Injecting
pub mod Numbering
pub mod Counted
pub mod Held
pub mod Closing
pub mod SideSorts
