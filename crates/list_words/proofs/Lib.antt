mod Additions
mod Lists
mod Numbers
mod Reading
mod Rows
mod Taken
mod Walks
