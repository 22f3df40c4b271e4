-- What holds wherever a reading stands, and that a field which passes its checks keeps it. The field's tag is one of eight; each is one law.
use Rattle.std.specs.Prelude.{ℕ, ◌+◌, ◌≤◌, ◌<◌, ◌≡◌, true, false, List, length}
use Rattle.std.proofs.Common.{◌∙◌}
use Rattle.sheet.specs.Limits.{most_blocks}
use Rattle.sheet.specs.Sections.{no_section, in_mosaic, in_sorting, in_flight, after_order}
use Rattle.sheet.specs.Sound.{MosaicSound, SortingSound, FlightWithin, strips_in_all}
use Rattle.sheet.specs.declared.Reading.{Reading}

pub record Kept (s : List ℕ) (st : Reading) : Type 0 where
  pub within : st.at ≤ length s
  pub few_members : st.members ≤ st.at
  pub known : st.section ≤ after_order
  pub mosaic : MosaicSound st.mosaic
  pub sorting : SortingSound st.sorting
  pub flight : FlightWithin most_blocks st.flight
  pub in_none : st.section ≡ no_section → st.members ≡ 0
  pub in_mosaic_holds : st.section ≡ in_mosaic → st.members ≡ st.mosaic.strips
  pub in_sorting_holds : st.section ≡ in_sorting → st.members ≡ strips_in_all st.sorting
  pub before_flight : st.section < in_flight → (st.flight.blocks ≡ 0) × (st.flight.ordered ≡ false)
  pub in_flight_lem : st.section ≡ in_flight → (st.members ≡ st.flight.blocks) × (st.flight.ordered ≡ false)
  pub after_order_holds : st.section ≡ after_order → (st.members ≡ st.flight.blocks) × (st.flight.ordered ≡ true)
