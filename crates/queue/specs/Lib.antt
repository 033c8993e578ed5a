pub mod Jobs
pub mod JobOrder
pub mod Sound
pub mod Falling
pub mod OfHeap
pub mod OfRow
