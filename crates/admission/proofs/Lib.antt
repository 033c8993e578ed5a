pub mod Measures
pub mod Adding
pub mod Tabled
pub mod Cycles
pub mod Verdicts
