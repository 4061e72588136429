mod Lists
mod Following
mod Steps
