pub mod Completion
pub mod SearchLaws
pub mod Consistent
pub mod CapLaws
pub mod AnyIncumbent
