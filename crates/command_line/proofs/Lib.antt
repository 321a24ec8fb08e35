pub mod ShownBack
