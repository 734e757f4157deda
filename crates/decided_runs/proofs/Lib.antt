mod Deciding
mod DonePoints
mod Staying
