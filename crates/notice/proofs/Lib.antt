pub mod Widths
pub mod Known
