mod Differing
mod Missing
mod Selecting
mod Trying
mod Zipping
