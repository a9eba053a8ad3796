mod Calling
mod Crossing
