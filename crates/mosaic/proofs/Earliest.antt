-- Mounts that start when the batch before finishes start no later than those of any lawful timetable with the same last strips, and the figure is no larger.
use Rattle.std.proofs.Math.Path.{◌≡◌, ap, ap₂, sym}
use mathlib.Core.List.{List, [], ◌∷◌}
use Prim.Native.Nat.{ℕ, zero, suc, ◌*◌, ◌≤◌, ◌<◌}
use Rattle.std.proofs.Math.Nat.{mul-le-mul_left}
use native.Mathlib.Omega.{arith}
use Rattle.std.specs.Prelude.{length}
use Rattle.std.proofs.Math.ListN.{get_or, drop}
use Rattle.sheet.specs.declared.MosaicSection.{MosaicSection}
use Rattle.rules.specs.declared.Batch.{Batch}
use Rattle.rules.specs.Mosaic.{no_batch}
use Rattle.running.specs.Running.{batch_weight, BatchFollows, MosaicRuns, more}
use Rattle.rules_laws.proofs.Finish.{finish_mono}
use Rattle.rules_laws.specs.MosaicRunning.{running_figure}
use Rattle.mosaic.specs.Plan.{lasts}
use Rattle.mosaic.specs.Laws.Attained.{AsEarly}

-- each mount starts when the batch before it in the list, or b before the first, finishes
pub early_start : (bs : List Batch) (b : Batch) → AsEarly b.finish bs → (i : ℕ) → i < length bs → (get_or bs i no_batch).start ≡ (get_or (b ∷ bs) i no_batch).finish
unfolding AsEarly
early_start [] b E i h = absurd (omega arith)
early_start (d ∷ bs) b E zero h = E.0
early_start (d ∷ bs) b E (suc i) h = early_start bs d E.1 i (omega arith)

module _ (m : MosaicSection) where
  -- two batches, the first as early as can be, after p and after r
  first_start : (p r c b : Batch) → c.start ≡ p.finish → BatchFollows m r b → p.finish ≤ r.finish → c.start ≤ b.start
  first_start p r c b e B f = omega (arith, B.lawful.waits_batch)

  first_finish : (p r c b : Batch) → BatchFollows m p c → BatchFollows m r b → p.last ≡ r.last → c.last ≡ b.last → c.start ≤ b.start
      → c.finish ≤ b.finish
  first_finish p r c b C B e l s = omega (arith, finish_mono m p r c b e l s, C.lawful.finishes, B.lawful.finishes)

  pub earliest : (cs bs : List Batch) (p r : Batch) → AsEarly p.finish cs → MosaicRuns m p cs → MosaicRuns m r bs → p.last ≡ r.last
      → p.finish ≤ r.finish
      → lasts bs ≡ lasts cs → (i : ℕ) → i < length bs → (get_or cs i no_batch).start ≤ (get_or bs i no_batch).start
  unfolding AsEarly lasts
  earliest cs [] p r E C B l f e i h = absurd (omega arith)
  earliest [] (b ∷ bs) p r E C B l f e i h = let z : ◌≡◌ {A = ℕ} 0 1 = cc in absurd (omega arith)
  earliest (c ∷ cs) (b ∷ bs) p r E (more F C) (more G B) l f e zero h = first_start p r c b E.0 G f
  earliest (c ∷ cs) (b ∷ bs) p r E (more F C) (more G B) l f e (suc i) h =
      let same : c.last ≡ b.last = sym (ap (λ (n : List ℕ). get_or n 0 0) e) in
      let late : c.finish ≤ b.finish = first_finish p r c b F G l same (first_start p r c b E.0 G f) in
      earliest cs bs c b E.1 C B same late (ap (λ (n : List ℕ). drop 1 n) e) i (omega arith)

  pub earliest_figure : (cs bs : List Batch) (p r : Batch) → AsEarly p.finish cs → MosaicRuns m p cs → MosaicRuns m r bs → p.last ≡ r.last
      → p.finish ≤ r.finish → lasts bs ≡ lasts cs → running_figure m p cs ≤ running_figure m r bs
  unfolding AsEarly lasts running_figure
  earliest_figure [] bs p r E C B l f e = omega arith
  earliest_figure (c ∷ cs) [] p r E C B l f e = let z : ◌≡◌ {A = ℕ} 0 1 = cc in absurd (omega arith)
  earliest_figure (c ∷ cs) (b ∷ bs) p r E (more F C) (more G B) l f e =
      let same : c.last ≡ b.last = sym (ap (λ (n : List ℕ). get_or n 0 0) e) in
      let late : c.finish ≤ b.finish = first_finish p r c b F G l same (first_start p r c b E.0 G f) in
      let w : batch_weight m p.last c.last * c.finish ≤ batch_weight m p.last c.last * b.finish = mul-le-mul_left _ late in
      let v : batch_weight m p.last c.last ≡ batch_weight m r.last b.last = ap₂ (batch_weight m) l same in
      let u : batch_weight m p.last c.last * b.finish ≡ batch_weight m r.last b.last * b.finish = ap (λ (x : ℕ). x * b.finish) v in
      omega (arith, w, u, earliest_figure cs bs c b E.1 C B same late (ap (λ (n : List ℕ). drop 1 n) e))
