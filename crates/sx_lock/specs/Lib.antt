pub mod SxLocks
