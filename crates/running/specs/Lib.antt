-- The rules as they run over the members in order, and what the functions on sections ask and give.
pub mod Running
pub mod FunctionLaws
