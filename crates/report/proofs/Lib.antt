mod Front
mod Long
mod Codes
mod Hexes
mod Deeds
mod Course
mod Parts
mod Appends
