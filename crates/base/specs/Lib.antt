-- What several layers need: what a call answers, sums over the numbers below n, lists given by their elements, the laws by which proofs follow a chain of
-- tests, and least figures.
pub mod Answer
pub mod Branch
pub mod Sums
pub mod SumLaws
pub mod Listed
pub mod Zeros
pub mod LeastFigure
