pub mod Counts
pub mod Memory
pub mod Sent
pub mod Told
