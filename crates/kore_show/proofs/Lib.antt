pub mod ShownParts
pub mod Declared
pub mod SortedShown
