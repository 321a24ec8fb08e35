pub mod VenueLaws
