-- The refusal numbers (01, "Turned back"), in the order of its table, and behind them those that 02 adds.
use Rattle.std.specs.Prelude.{ℕ}

abbrev pub table_too_small : ℕ
table_too_small = 1

abbrev pub buffer_too_small : ℕ
buffer_too_small = 2

-- "under three bytes left, or content runs past the end"
abbrev pub field_cut : ℕ
field_cut = 3

-- "tag not permitted next; order field with no block before it"
abbrev pub tag_not_permitted : ℕ
tag_not_permitted = 4

abbrev pub length_wrong : ℕ
length_wrong = 5

-- "value out of its range", which 02 keeps "for station, desk and other counts" (Req 04)
abbrev pub out_of_range : ℕ
out_of_range = 6

-- "41st mosaic strip, 7th for one desk, 33rd block"
abbrev pub too_many : ℕ
too_many = 7

-- "section without members; empty sheet"
abbrev pub no_members : ℕ
no_members = 8

abbrev pub order_not_proper : ℕ
order_not_proper = 9

-- "over 8 blocks and no order"
abbrev pub order_missing : ℕ
order_missing = 10

-- "no timetable keeps the given order"; 02, Req 06: "no proper order has a timetable", where none is given
abbrev pub order_impossible : ℕ
order_impossible = 11

-- the judge: "plan's tags, lengths or sections wrong", "a rule broken", "stated figure untrue"
abbrev pub layout_wrong : ℕ
layout_wrong = 12

abbrev pub rule_broken : ℕ
rule_broken = 13

abbrev pub figure_untrue : ℕ
figure_untrue = 14

-- 02, Req 04: "15, a time above its upper end; 16, a time of zero where at least 1 is due"
abbrev pub time_too_large : ℕ
time_too_large = 15

abbrev pub time_of_zero : ℕ
time_of_zero = 16

-- 02, Req 07: "17, longest below shortest"
abbrev pub longest_below_shortest : ℕ
longest_below_shortest = 17
