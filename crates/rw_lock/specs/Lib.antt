pub mod RwLocks
