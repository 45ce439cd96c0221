mod Rows
mod Course
mod Listed
mod Chained
mod Returned
