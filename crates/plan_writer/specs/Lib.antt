-- What the writer of plans leaves in its buffer, and the laws of it.
pub mod Written
pub mod SectionLaws
pub mod PlanLaws
