mod Pieces
mod Spelling
