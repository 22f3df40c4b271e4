-- The limits of the systems that the code takes, and what their values come to at most; so every sum stays within 64 bits.
use Rattle.std.specs.Prelude.{ℕ, ◌*◌, ◌^◌}

-- variables of a system
abbrev pub most_variables : ℕ
most_variables = 64

-- constraints of a system
abbrev pub most_constraints : ℕ
most_constraints = 256

-- `up` or `down` of a constraint
abbrev pub most_number : ℕ
most_number = 2 ^ 32

-- what a round adds to a value: each constraint adds no more than its `up`
abbrev pub round_cap : ℕ
round_cap = most_constraints * most_number

-- a value: there are as many rounds as variables
abbrev pub value_cap : ℕ
value_cap = most_variables * round_cap
