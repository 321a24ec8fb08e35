pub mod StampAt
