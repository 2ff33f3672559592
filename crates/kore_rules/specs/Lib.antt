-- Public: what public clauses say, and public definitions of other crates.
pub mod GroundTerms
pub mod FirstRefusal
pub mod EquationsAmong
pub mod KeptNames
pub mod Programs
pub mod Refused
pub mod NamedVariables
pub mod Acceptance
pub mod Names
pub mod RefusedTexts
-- Laws: what follows from that. Each is a clause of a function that does nothing.
pub mod AcceptanceLaws
pub mod SamePrograms
-- Private: what clauses of private functions cite, and how private fields are seen.
pub mod GroundNotes
pub mod AxiomsRead
pub mod ScalarSorts
pub mod TrialOrder
pub mod LastResortsRead
pub mod Starts
pub mod MadePrograms
