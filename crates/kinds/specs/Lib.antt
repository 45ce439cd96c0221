pub mod Ticks
pub mod TickLaws
pub mod Places
pub mod PlaceLaws
