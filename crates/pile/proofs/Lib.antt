pub mod Inserting
pub mod Sorting
pub mod Ordering
pub mod Heaping
pub mod Holes
pub mod Calls
pub mod SamePile
