-- The limits of a sheet and of the buffers (01, "The sheet", "Turned back").
use Rattle.std.specs.Prelude.{ℕ}

abbrev pub most_stations : ℕ
most_stations = 4

abbrev pub most_desks : ℕ
most_desks = 3

-- 02, Req 01: "every two-byte time" goes "up to 60,000"; the turn of Req 06 has an upper end of its own
abbrev pub most_time : ℕ
most_time = 60_000

-- 02, Req 06: "the turn g, 0 to 600 seconds"
abbrev pub most_turn : ℕ
most_turn = 600

-- 02, Req 09: a strip's "weight, 1 to 100"
abbrev pub most_weight : ℕ
most_weight = 100

abbrev pub most_strips : ℕ
most_strips = 40

abbrev pub most_strips_of_desk : ℕ
most_strips_of_desk = 6

abbrev pub most_blocks : ℕ
most_blocks = 32

abbrev pub most_blocks_without_order : ℕ
most_blocks_without_order = 8

-- "In an allowed plan all starts and finishes are whole numbers from 0 to 10,000,000."
abbrev pub ceiling : ℕ
ceiling = 10_000_000

-- the numbers of 64 bits that the working table must have, and the bytes that the plan buffer must have (02, Req 09: "the plan buffer must have 1,103")
abbrev pub table_length : ℕ
table_length = 6_400

abbrev pub plan_length : ℕ
plan_length = 1_103

-- 02, Req 02: "a page buffer below 3,069 bytes" is too small
abbrev pub page_length : ℕ
page_length = 3_069
