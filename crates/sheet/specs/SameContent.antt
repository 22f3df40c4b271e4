-- Two fields of the same tag and the same content, in two sheets or at two offsets, are checked and decoded alike: no check and no value looks beyond the
-- content.
-- The idea: a field whose length is due has its values within it; one whose length is not due is refused for that before they are looked at.
use Prim.Native.Nat.{ℕ, ◌+◌, ◌*◌, ◌≤◌, ◌<◌}
use Rattle.std.specs.Prelude.{◌≡◌, cond, ◌⊎◌, get_or}
use Rattle.std.proofs.Common.{◌∙◌}
use mathlib.Core.List.{List, [], ◌∷◌}
use Rattle.std.proofs.Math.Dec.{eqb}
use Rattle.sheet.specs.Tags.{flight_head_tag, flight_order_tag}
use Rattle.sheet.specs.declared.FlightSection.{FlightSection}
use Rattle.sheet.specs.declared.Reading.{Reading}

-- a flight section with another place for 11
abbrev pub with_place : ℕ → FlightSection → FlightSection
with_place place f =
    record {
      blocks = f.blocks;
      turn = f.turn;
      first = f.first;
      shortest = f.shortest;
      longest = f.longest;
      second = f.second;
      ordered = f.ordered;
      order = f.order;
      place = place;
    }

-- the place for 11 after a field: a head and an order field set it
unfoldable pub place_after : ℕ → ℕ → ℕ → ℕ
place_after tag at place = cond (eqb tag flight_head_tag) at (cond (eqb tag flight_order_tag) at place)

-- the bytes of s from c on and those of t from d on are the same, so many of them
pub record SameBytes (s : List ℕ) (c : ℕ) (t : List ℕ) (d len : ℕ) : Type 0 where
  pub same : (j : ℕ) → j < len → get_or s (c + j) 0 ≡ get_or t (d + j) 0

-- Two readings that are alike but for places: what they have read is the same.
pub record Alike (st other : Reading) : Type 0 where
  pub section : other.section ≡ st.section
  pub members : other.members ≡ st.members
  pub mosaic : other.mosaic ≡ st.mosaic
  pub sorting : other.sorting ≡ st.sorting
  pub flight : other.flight ≡ with_place other.flight.place st.flight
