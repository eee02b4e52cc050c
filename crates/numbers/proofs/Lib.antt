pub mod CapLaws
pub mod StepLaws
pub mod LoopLaws
pub mod PassLaws
pub mod DigitLaws
pub mod StrippedLaws
