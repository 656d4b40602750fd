pub mod Names
pub mod OrderFacts
pub mod TakeFacts
pub mod WantFacts
mod OrderGuards
