pub mod Order
pub mod Raising
pub mod Looping
pub mod Marks
pub mod Reading
pub mod Hearing
pub mod Outcome
