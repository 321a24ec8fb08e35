pub mod GoingOn
