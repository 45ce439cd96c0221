pub mod Graph
pub mod Offsets
pub mod Network
pub mod Words
pub mod Theorems
pub mod Climb
