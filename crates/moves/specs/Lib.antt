pub mod Sheets
pub mod Halls
pub mod Moves
