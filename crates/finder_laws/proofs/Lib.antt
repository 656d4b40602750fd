pub mod OneActs
pub mod AllSeen
