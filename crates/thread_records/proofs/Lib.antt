pub mod OneEach
pub mod ByLock
