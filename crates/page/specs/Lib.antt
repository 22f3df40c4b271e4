-- The page: what it is (Page), and what a call answers and leaves (Call). The others hold what its printer asks and leaves (Printed), and the laws by which the
-- functions meet their contracts. Theorems about the page stand in crate page_laws.
pub mod Page
pub mod Call
pub mod Printed
pub mod PageLaws
