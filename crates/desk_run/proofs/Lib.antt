mod Noted
mod PastLines
