mod Drawn
mod Queued
mod Told
mod Turns
mod Values
