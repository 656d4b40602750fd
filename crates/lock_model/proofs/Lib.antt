mod NamedKeys
mod Spelled
pub mod Lists
pub mod LeastCodes
pub mod HeldLocks
pub mod Orders
pub mod Facets
