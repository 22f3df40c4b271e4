pub mod FormLaws
pub mod ByteLaws
