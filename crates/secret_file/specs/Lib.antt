pub mod Secret
