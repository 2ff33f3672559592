-- Laws: what follows from the definitions of other crates. Each is a clause of a function that does
-- nothing.
pub mod DrillAcceptance
