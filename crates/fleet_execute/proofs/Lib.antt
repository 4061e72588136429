mod Steps
mod Lengths
mod Dialogues
mod Cells
