-- Public: what public clauses say, and public definitions of other crates.
pub mod Escapes
pub mod Pieces
pub mod Lexed
pub mod Unread
pub mod Tokens
pub mod Value
-- Laws: what follows from that. Each is a clause of a function that does nothing.
pub mod TokenLaws
-- Private: what clauses of private functions cite, and how private fields are seen.
pub mod Steps
