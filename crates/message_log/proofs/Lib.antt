pub mod LoggedBytes
