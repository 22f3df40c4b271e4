-- The times and the weight of a strip, as the rules and as the search read them.
use Rattle.std.specs.Prelude.{◌≡◌, List, ℕ, ◌+◌, ◌-◌, ◌*◌, ◌≤◌, ◌<◌}
use Rattle.std.proofs.Math.Path.{refl, sym, ap}
use Rattle.std.proofs.Common.{◌∙◌}
use native.Mathlib.Omega.{arith}
use Rattle.std.proofs.Math.ListN.{get_or}
use Rattle.sheet.specs.declared.SortingSection.{SortingSection}
use Rattle.sheet.specs.Sound.{SortingSound}
use Rattle.rules.specs.declared.Job.{Job}
use Rattle.rules.specs.Sorting.{slot, scan_time, desk_time, job_weight, strips_of}
use Rattle.interleaving.specs.Instance.{scan_of, desk_of, weight_of}
use Rattle.interleaving.specs.Search.{start_state}
use Rattle.interleaving.proofs.Consistent.{zeros}
use Rattle.sorting.specs.Plan.{instance_of}
use Rattle.sorting.proofs.InstanceLaws.{scan_of_lem, desk_of_lem, weight_of_lem, count_at}

module _ (s : SortingSection) (h : SortingSound s) (q : Job) (d i : ℕ) (desk : q.desk ≡ d + 1) (number : q.number ≡ i + 1) (l : d * 6 + i < 18) where
  slot_is : slot q.desk q.number ≡ d * 6 + i
  unfolding slot
  slot_is = omega arith

  pub scan_time_lem : scan_time s q ≡ scan_of (instance_of s) d i
  unfolding scan_time
  scan_time_lem = ap (λ (x : ℕ). get_or s.scan x 0) slot_is ∙ sym (scan_of_lem s h d i l)

  pub desk_time_lem : desk_time s q ≡ desk_of (instance_of s) d i
  unfolding desk_time
  desk_time_lem = ap (λ (x : ℕ). get_or s.desk x 0) slot_is ∙ sym (desk_of_lem s h d i l)

  pub job_weight_lem : job_weight s q ≡ weight_of (instance_of s) d i
  unfolding job_weight
  job_weight_lem = ap (λ (x : ℕ). get_or s.weight x 0) slot_is ∙ sym (weight_of_lem s h d i l)

module _ (s : SortingSection) (h : SortingSound s) where
  -- a desk that has a strip is a desk of the section, and its strips are counted
  pub strips_of_lem : (d : ℕ) → d < 3 → strips_of s (d + 1) ≡ get_or (instance_of s) d 0
  unfolding strips_of
  strips_of_lem d p = ap (λ (x : ℕ). get_or s.counts x 0) back ∙ sym (count_at s h d p)
    where
      back : d + 1 - 1 ≡ d
      back = omega arith

  pub no_strips : (d : ℕ) → d < 3 → s.desks ≤ d → get_or (instance_of s) d 0 ≡ 0
  no_strips d p l = count_at s h d p ∙ h.no_desk d l

-- at the start no strip is taken, no desk is busy
module _ (J : List ℕ) where
  pub start_taken : (d : ℕ) → get_or (start_state J).taken d 0 ≡ 0
  unfolding start_state
  start_taken d = zeros d

  pub start_free : (d : ℕ) → get_or (start_state J).free d 0 ≡ 0
  unfolding start_state
  start_free d = zeros d

  pub start_time : (start_state J).time ≡ 0
  unfolding start_state
  start_time = refl

  pub start_cost : (start_state J).cost ≡ 0
  unfolding start_state
  start_cost = refl
