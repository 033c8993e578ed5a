pub mod Spending
pub mod Bags
pub mod Heaps
pub mod Rows
pub mod RowCalls
