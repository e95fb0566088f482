pub mod Copies
pub mod Climbing
pub mod Asking
pub mod Rising
pub mod Falling
