mod Parts
mod Growing
mod Told
