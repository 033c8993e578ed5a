pub mod Recents
pub mod Deadlines
pub mod ReleaseOrder
pub mod Releases
pub mod InTable
pub mod Meaning
