-- For proofs that compute: to unfold `sheet_computes` is to unfold every definition that the reading of a sheet runs through.
use Prim.{Unit, tt}
use Rattle.base.specs.Branch.{check}
use Rattle.order.specs.Order.{seconds, firsts, never_more_seconds, is_proper}
use Rattle.field.specs.Bytes.{number_at, bytes_of}
use Rattle.field.specs.Field.{field_at, field_bytes}
use Rattle.sheet.specs.Sections.{strips_of_desk}
use Rattle.sheet.specs.Among.{is_among}
use Rattle.sheet.specs.FieldTable.{mosaic_head, mosaic_strip, sorting_head, sorting_strip, empty_flight_head, turn_flight_head, flight_block, flight_window_block, flight_order}
use Rattle.sheet.specs.FieldTable.{with_weight, is_station_count, strip_rows, field_table, length_of, contents_of, lengths_of, lengths_due, of_length, numbers_at, values_of, content_values, field_values}
use Rattle.sheet.specs.Rows.{first_failure}
use Rattle.sheet.specs.Checks.{ends_section, section_filled, few_blocks, order_given, order_permitted, permitted}
use Rattle.sheet.specs.Checks.{count_number, time_number, value_number, value_numbers, range_number, window_ordered, has_room, order_proper}
use Rattle.sheet.specs.Decode.{zeros, no_mosaic, no_sorting, no_flight, with_mosaic_head, weight_of, with_station_times, with_mosaic_strip, with_sorting_head, with_strip_at}
use Rattle.sheet.specs.Decode.{with_sorting_strip, turn_of, with_flight_head, exact_block, window_block, with_block, with_order, next_mosaic, next_sorting, next_flight, next_section, next_members, next_head}
use Rattle.sheet.specs.Decode.{next_reading, start_reading}
use Rattle.sheet.specs.Read.{read_sheet, content_checks, field_checks, field_number, end_checks, end_number, place_of, refused, accepted, at_end, read_from}
use Rattle.sheet.specs.Sound.{strips_in_all}

unfoldable pub sheet_computes : Unit {0}
unfolding
    seconds firsts never_more_seconds is_proper number_at bytes_of field_at field_bytes check
    mosaic_head mosaic_strip sorting_head sorting_strip empty_flight_head turn_flight_head flight_block flight_window_block flight_order is_station_count strip_rows field_table
    with_weight length_of contents_of lengths_of lengths_due of_length is_among numbers_at values_of content_values field_values
    ends_section section_filled few_blocks order_given order_permitted permitted first_failure count_number time_number value_number value_numbers range_number
    window_ordered has_room strips_of_desk order_proper
    zeros no_mosaic no_sorting no_flight with_mosaic_head weight_of with_station_times with_mosaic_strip with_sorting_head with_strip_at with_sorting_strip
    turn_of with_flight_head exact_block window_block with_block with_order
    next_mosaic next_sorting next_flight next_section next_members next_head next_reading start_reading
    content_checks field_checks field_number end_checks end_number place_of refused accepted at_end read_from read_sheet strips_in_all
sheet_computes = tt
