mod Promise
mod Places
mod Closes
mod Keeps
mod Walks
mod Walked
pub mod Told
