mod Told
mod Recovering
mod Showing
mod Causes
mod PlainState
