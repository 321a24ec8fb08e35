pub mod OrderBack
