mod Channels
pub mod Cuts
mod Digits
mod FirstWords
pub mod GeneratedPlans
pub mod Generating
mod LastHeld
mod LineStages
mod OpenBlocks
mod Runs
mod Tens
mod ToldLines
