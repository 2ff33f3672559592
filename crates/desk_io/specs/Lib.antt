-- Public: what public clauses say, and public definitions of other crates.
pub mod Counts
pub mod MemDesk
pub mod MemSink
pub mod Memory
pub mod Sent
pub mod SinkChanges
pub mod HeldFiles
pub mod MissingFiles
pub mod KeptFiles
pub mod Told
pub mod Changes
pub mod ReadBounds
pub mod CreatedFiles
pub mod States
-- Private: what clauses of private functions cite, and how private fields are seen.
pub mod End
pub mod FirstFile
pub mod MemoryChanges
pub mod ReadingOn
