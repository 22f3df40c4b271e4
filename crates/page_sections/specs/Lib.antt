-- The sections of a page: what each function asks and leaves (Printed), and the laws by which the lines of a section are stored (SectionLaws).
pub mod Printed
pub mod SectionLaws
