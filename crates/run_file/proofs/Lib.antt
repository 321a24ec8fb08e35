mod Ends
mod Having
