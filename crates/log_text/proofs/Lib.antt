pub mod ReadOn
pub mod ReadBack
pub mod LineParts
pub mod LineBack
pub mod QuickfixParts
