pub mod Names
pub mod AcceptedLists
pub mod AcceptedBlocks
pub mod Accepted
mod CanonicalWords
mod CanonicalReading
mod CanonicalNames
mod CanonicalOperations
mod CanonicalThreads
mod CanonicalKept
mod CanonicalDeclarations
pub mod CanonicalTexts
