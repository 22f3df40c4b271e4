-- A mosaic section of its parts.
use Rattle.std.specs.Prelude.{ℕ, List}
use Rattle.sheet.specs.declared.MosaicSection.{MosaicSection}

abbrev pub section_of : ℕ → ℕ → ℕ → List ℕ → List ℕ → List ℕ → MosaicSection
section_of stations mount strips station bench weight =
    record { stations = stations; mount = mount; strips = strips; station = station; bench = bench; weight = weight }
