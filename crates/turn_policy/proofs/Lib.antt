mod Lists
mod Runnable
mod Candidates
mod Draws
mod Turns
mod Chosen
mod Stays
