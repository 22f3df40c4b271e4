-- The page is "lines of exactly 32 columns and a line feed": every line has 32 columns, none of them a line feed, and the bytes are these lines, each with a
-- line feed behind it. The columns are those of the fields, one behind another; the bytes of line i then stand from 33 * i on. A lawful plan of a sound sheet
-- has at most 93 lines.
use Rattle.std.specs.Prelude.{ℕ, ◌+◌, ◌*◌, ◌≤◌, ◌<◌, ◌≡◌, ◌≢◌, length, get_or, take, drop}
use Rattle.std.proofs.Common.{◌∙◌}
use mathlib.Core.List.{List, [], ◌∷◌, ◌++◌}
use Rattle.decimal.specs.Columns.{columns}
use Rattle.sheet.specs.Sound.{strips_in_all}
use Rattle.sheet.specs.declared.Sheet.{Sheet}
use Rattle.rules.specs.Mosaic.{mosaic_figure}
use Rattle.rules.specs.Sorting.{sorting_figure}
use Rattle.rules.specs.Flight.{flight_figure}
use Rattle.rules.specs.Plan.{Plan, if_present}
use Rattle.page_lines.specs.Line.{line_feed}
use Rattle.page_lines.specs.Columns.{HasColumns}
use Rattle.page.specs.Page.{mosaic_lines, sorting_lines, flight_lines}

-- every element of a list has a property
abbrev pub Each : {A : Type 0} → A → (A → Type 0) → List A → Type 0
Each none Has xs = (i : ℕ) → i < length xs → Has (get_or xs i none)

-- A line: 32 columns, none of them a line feed.
abbrev pub NoFeed : ℕ → Type 0
NoFeed column = column ≢ line_feed

pub record Line (line : List ℕ) : Type 0 where
  pub columns : HasColumns line
  pub no_feed : Each 0 NoFeed line

-- the bytes are these lines, each of 32 columns and a line feed
pub record InLines (lines : List (List ℕ)) (bytes : List ℕ) : Type 0 where
  pub columns : (i : ℕ) → i < length lines → length (get_or lines i []) ≡ 32
  pub no_feed : (i k : ℕ) → i < length lines → k < 32 → get_or (get_or lines i []) k 0 ≢ line_feed
  pub long : length bytes ≡ 33 * length lines
  pub line : (i : ℕ) → i < length lines → take 32 (drop (33 * i) bytes) ≡ get_or lines i []
  pub feed : (i : ℕ) → i < length lines → get_or bytes (33 * i + 32) 0 ≡ line_feed

-- the lines of each section of a page
abbrev pub mosaic_of_page : Sheet → Plan → List (List ℕ)
mosaic_of_page s p = if_present s.mosaic.strips (mosaic_lines (mosaic_figure s.mosaic p.batches) p.batches)

abbrev pub sorting_of_page : Sheet → Plan → List (List ℕ)
sorting_of_page s p = if_present (strips_in_all s.sorting) (sorting_lines (sorting_figure s.sorting p.jobs) p.jobs)

abbrev pub flight_of_page : Sheet → Plan → List (List ℕ)
flight_of_page s p = if_present s.flight.blocks (flight_lines (flight_figure s.flight p.passes) p.passes)
