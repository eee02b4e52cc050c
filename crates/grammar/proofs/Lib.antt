pub mod Unique
pub mod Machine
pub mod Levels
pub mod Sound
pub mod Reading
pub mod StackLaws
pub mod KindLaws
