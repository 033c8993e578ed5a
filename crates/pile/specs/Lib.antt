pub mod Order
pub mod Sorted
pub mod Heaps
pub mod Sifting
pub mod Piles
