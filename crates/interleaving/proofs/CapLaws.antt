-- What keeps the sums of a state and of a step within 64 bits, and that a step keeps it.
use Rattle.std.specs.Prelude.{◌≡◌, List, ℕ, suc, ◌+◌, ◌-◌, ◌*◌, ◌^◌, ◌≤◌, ◌<◌, set}
use Rattle.std.proofs.Common.{le_trans, lt_of_lt_of_le, pow-suc, mul-le-mul_right, arith, get_or-set_other}
use Rattle.std.proofs.Math.Nat.{pow-le-pow_right}
use Rattle.std.proofs.Math.Decide.{ℕ_discrete}
use Rattle.std.proofs.Math.ListN.{get_or, length-set}
use Rattle.std.proofs.Math.Seq.{get_or-set_same}
use Rattle.interleaving.specs.declared.State.{State}
use Rattle.interleaving.specs.Instance.{Instance, desk_capped, scan_of, desk_of, weight_of, time_cap, strip_span}
use Rattle.interleaving.specs.Instance.{strips_cap, free_cap, strip_cost}
use Rattle.interleaving.specs.Search.{StripLeft, scanned, finish, step_of}
use Rattle.interleaving.proofs.SearchLaws.{max_least}
use Rattle.interleaving.specs.Caps.{Capped, StepCapped, StepPre}

module _ (J : List ℕ) (j : Instance J) (s : State) (f : Capped s) (d : ℕ) (p : d < 3) (m : StripLeft J s d) (more : 0 < s.left) where
  at_most : d * 6 + get_or s.taken d 0 ≤ 17
  at_most = omega (arith, j.few d p)

  scan_small : scan_of J d (get_or s.taken d 0) ≤ time_cap
  scan_small = j.small (d * 6 + get_or s.taken d 0)

  desk_small : desk_of J d (get_or s.taken d 0) ≤ time_cap
  desk_small = desk_capped j d (get_or s.taken d 0)

  finish_small : finish J s d + (s.left - 1) * strip_span ≤ free_cap
  finish_small =
      omega (arith, max_least (get_or s.free d 0) (scanned J s d) (free_cap - s.left * strip_span + time_cap) (omega (arith, f.free d)) (omega (arith, f.time, f.left, scan_small)), f.left, desk_small)

  weighted_small : weight_of J d (get_or s.taken d 0) * finish J s d ≤ strip_cost
  weighted_small = le_trans (mul-le-mul_right (finish J s d) (j.light (d * 6 + get_or s.taken d 0))) (omega (arith, finish_small))

  path_next : s.path * 4 + d + 1 < 4 ^ (strips_cap - (s.left - 1))
  path_next = rw (e, pow-suc 4 (strips_cap - s.left)) (omega (arith, f.path))
    where
      e : strips_cap - (s.left - 1) ≡ suc (strips_cap - s.left)
      e = omega (arith, f.left)

  pub step_capped : StepCapped J s d
  step_capped = record {
    index = at_most;
    scan = scan_small;
    desk = desk_small;
    weight = j.light (d * 6 + get_or s.taken d 0);
    free = omega (arith, f.free d);
    before = omega (arith, f.cost);
    time = omega (arith, f.time, scan_small);
    done = finish_small;
    cost = omega (arith, f.cost, weighted_small);
    weighted = weighted_small;
    path = path_next;
    small = lt_of_lt_of_le path_next (pow-le-pow_right {n = 4} (omega arith) {i = strips_cap - (s.left - 1)} {j = strips_cap} (omega arith));
    size = j.size;
  }

  pub capped_step : Capped (step_of J s d)
  unfolding step_of
  capped_step = record {
    left = omega (arith, f.left);
    frees = simp length-set f.frees;
    takens = simp length-set f.takens;
    time = step_capped.time;
    free = λ e. go e (ℕ_discrete e d);
    cost = step_capped.cost;
    path = path_next;
  }
    where
      go : (e : ℕ) → Dec (e ≡ d) → get_or (set s.free d (finish J s d)) e 0 + (s.left - 1) * strip_span ≤ free_cap
      go e (yes q) = rw (q, get_or-set_same s.free d (finish J s d) 0 (omega (arith, f.frees))) finish_small
      go e (no q) = rw (get_or-set_other s.free d e (finish J s d) 0 q) (omega (arith, f.free e))

pub step_pre_capped : {J : List ℕ} {s : State} {d : ℕ} → StepPre J s d → StepCapped J s d
step_pre_capped {J} {s} {d} h = step_capped J h.jobs s h.capped d h.desk h.strip h.left
