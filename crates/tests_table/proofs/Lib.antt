mod Popped
mod Numbering
