mod Marking
mod Fullness
mod Nearness
