pub mod Rows
pub mod Loaded
pub mod Shown
pub mod Printed
pub mod Typed
pub mod Marked
