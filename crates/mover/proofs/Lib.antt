mod Ready
mod Seen
