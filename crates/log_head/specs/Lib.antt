pub mod LogHead
