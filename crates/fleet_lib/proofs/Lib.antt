pub mod Endings
pub mod Folder
mod AddedChapters
mod Journals
mod Judged
mod Executions
