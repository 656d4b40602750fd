pub mod Forms
pub mod Args
