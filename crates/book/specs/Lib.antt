pub mod Memory
pub mod Search
pub mod Walking
