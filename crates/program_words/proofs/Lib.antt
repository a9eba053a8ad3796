mod Lists
mod Numbers
mod Reading
mod Additions
mod Rows
mod Walks
mod Levels
mod Limits
