-- Public: what public clauses say, and public definitions of other crates.
pub mod FaultKinds
pub mod Bytes
pub mod Tokens
pub mod Next
pub mod Statements
pub mod Labels
pub mod Compressed
pub mod Numbers
pub mod Written
pub mod Reader
-- Laws: what follows from that. Each is a clause of a function that does nothing.
pub mod NumberLaws
pub mod TextLaws
pub mod PlainTokens
pub mod Cases
pub mod Places
pub mod Letters
-- Private: what clauses of private functions cite, and how private fields are seen.
pub mod Ahead
pub mod DigitsRead
pub mod ReaderSteps
