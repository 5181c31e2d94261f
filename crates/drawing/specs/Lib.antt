pub mod Tests
pub mod Held
pub mod Drawn
pub mod Backward
pub mod Turns
