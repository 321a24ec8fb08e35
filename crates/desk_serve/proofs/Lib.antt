mod Answering
mod Counting
mod Showing
