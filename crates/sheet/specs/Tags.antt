-- The tags of fields: of a sheet (01, "The sheet"; 02), and of a plan (01, "The plan").
use Rattle.std.specs.Prelude.{ℕ}

abbrev pub mosaic_head_tag : ℕ
mosaic_head_tag = 0x10

abbrev pub mosaic_strip_tag : ℕ
mosaic_strip_tag = 0x11

abbrev pub sorting_head_tag : ℕ
sorting_head_tag = 0x20

abbrev pub sorting_strip_tag : ℕ
sorting_strip_tag = 0x21

abbrev pub flight_head_tag : ℕ
flight_head_tag = 0x30

abbrev pub flight_block_tag : ℕ
flight_block_tag = 0x31

abbrev pub flight_order_tag : ℕ
flight_order_tag = 0x32

-- 02, Req 07: "A block of tag 33"
abbrev pub flight_window_block_tag : ℕ
flight_window_block_tag = 0x33

abbrev pub plan_mosaic_tag : ℕ
plan_mosaic_tag = 0x90

abbrev pub plan_batch_tag : ℕ
plan_batch_tag = 0x91

abbrev pub plan_sorting_tag : ℕ
plan_sorting_tag = 0xa0

abbrev pub plan_strip_tag : ℕ
plan_strip_tag = 0xa1

abbrev pub plan_flight_tag : ℕ
plan_flight_tag = 0xb0

abbrev pub plan_block_tag : ℕ
plan_block_tag = 0xb1

abbrev pub plan_refusal_tag : ℕ
plan_refusal_tag = 0xe0
