pub mod Refusals
pub mod Limits
pub mod Polls
pub mod Lanes
pub mod Machine
pub mod History
pub mod Promises
pub mod Worked
