mod Joined
mod Keeping
mod Lists
mod Skipping
mod Telling
mod Utf8
