pub mod Grammar
pub mod Parse
pub mod Accept
pub mod Read
pub mod Code
pub mod Examples
