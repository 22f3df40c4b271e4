-- What the functions' proofs cite: laws over plain values, whose premises are the facts at hand there.
mod CandidateLaws
mod RowLaws
mod BlockLaws
mod LateLaws
mod ChoiceLaws
