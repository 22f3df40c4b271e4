-- The strips of all desks.
use Rattle.std.specs.Prelude.{◌+◌, ◌^◌, ◌<◌, get_or}
use Rattle.std.proofs.Common.{arith}
use Rattle.sheet.specs.Sound.{SortingSound}
use Rattle.sheet.specs.declared.SortingSection.{SortingSection}

-- The strips of all desks fit a number.
module _ (s : SortingSection) (sound : SortingSound s) where
  pub two_desks_fit : get_or s.counts 0 0 + get_or s.counts 1 0 < 2 ^ 64
  two_desks_fit = omega (arith, sound.most_strips_holds 0, sound.most_strips_holds 1)

  pub all_desks_fit : get_or s.counts 0 0 + get_or s.counts 1 0 + get_or s.counts 2 0 < 2 ^ 64
  all_desks_fit = omega (arith, sound.most_strips_holds 0, sound.most_strips_holds 1, sound.most_strips_holds 2)
