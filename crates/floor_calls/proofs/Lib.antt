pub mod Names
mod Numbers
mod Sleepable
mod Room
mod Tests
mod Chains
mod Fitting
mod Standing
mod Waiting
mod Answered
mod Opened
