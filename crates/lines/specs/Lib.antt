pub mod Numbers
pub mod Lines
pub mod Bits
pub mod Orders
pub mod Rising
pub mod Digits
pub mod InLine
pub mod Turned
