pub mod Names
pub mod SleepFacts
pub mod SleepGuards
pub mod LegalSoFar
