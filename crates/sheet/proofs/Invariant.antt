-- What holds wherever a reading stands, and that a field which passes its checks keeps it. The field's tag is one of eight; each is one law.
use Rattle.std.specs.Prelude.{ℕ, ◌+◌, ◌≤◌, ◌<◌, ◌≡◌, List, length}
use Rattle.std.proofs.Math.Path.{refl, sym, ap}
use Rattle.std.proofs.Common.{◌∙◌, subst, arith}
use Rattle.std.proofs.Math.Decide.{dec_lt}
use Rattle.sheet.specs.Limits.{most_blocks, most_strips}
use Rattle.sheet.specs.Tags.{mosaic_head_tag, mosaic_strip_tag, sorting_head_tag, sorting_strip_tag, flight_head_tag, flight_block_tag, flight_order_tag}
use Rattle.sheet.specs.Tags.{flight_window_block_tag}
use Rattle.sheet.specs.Sections.{no_section, in_mosaic, in_sorting, in_flight}
use Rattle.sheet.specs.Checks.{ends_section}
use Rattle.sheet.proofs.Contents.{mosaic_head_values_lem, mosaic_strip_values, sorting_head_values_lem, sorting_strip_values, flight_head_values_lem, flight_block_values}
use Rattle.sheet.proofs.Contents.{flight_window_block_values}
use Rattle.sheet.specs.Causes.{Permitted, TooMany}
use Rattle.sheet.specs.Decode.{no_flight, with_mosaic_head, with_mosaic_strip, with_sorting_head, with_flight_head, with_block, with_order, next_mosaic, next_sorting, next_flight}
use Rattle.sheet.specs.Decode.{next_section, next_head, next_members, next_reading, start_reading}
use Rattle.sheet.specs.Sound.{strips_in_all}
use Rattle.sheet.proofs.Stores.{zeros_at}
use Rattle.sheet.specs.Passed.{Passed}
use Rattle.sheet.proofs.Passed.{within_by}
use Rattle.sheet.proofs.SectionLaws.{no_mosaic_sound, no_sorting_sound, no_flight_sound, mosaic_head_sound, mosaic_strip_sound, sorting_head_sound}
use Rattle.sheet.specs.SectionLaws.{BlockSound}
use Rattle.sheet.proofs.SectionLaws.{sorting_strip_sound, sorting_strip_more, flight_head_sound, exact_block_sound, window_block_sound}
use Rattle.sheet.proofs.SectionLaws.{block_sound, order_sound}
use Rattle.sheet.specs.declared.Block.{Block}
use Rattle.sheet.specs.declared.Reading.{Reading}
use Rattle.sheet.specs.Invariant.{Kept}

pub kept_start : (s : List ℕ) → Kept s start_reading
unfolding start_reading no_flight
kept_start s =
    record {
      within = omega arith;
      few_members = omega arith;
      known = omega arith;
      mosaic = no_mosaic_sound;
      sorting = no_sorting_sound;
      flight = no_flight_sound;
      in_none = λ _. refl;
      in_mosaic_holds = λ e. absurd (omega arith);
      in_sorting_holds = λ e. absurd (omega arith);
      before_flight = λ h. (refl, refl);
      in_flight_lem = λ e. absurd (omega arith);
      after_order_holds = λ e. absurd (omega arith);
    }

-- what is not too many
pub below : (i j : ℕ) → (j ≤ i → ⊥) → i < j
below i j n = go (dec_lt i j)
  where
    go : Dec (i < j) → i < j
    go (yes h) = h
    go (no h) = absurd (n (omega arith))

module _ (s : List ℕ) (st : Reading) (len : ℕ) (k : Kept s st) (w : st.at + 3 + len ≤ length s) where
  kept_mosaic_head : Passed s st mosaic_head_tag len → st.section ≡ no_section → Kept s (next_reading s st mosaic_head_tag len)
  unfolding next_reading next_section next_head next_members next_mosaic next_sorting next_flight ends_section with_mosaic_head
  kept_mosaic_head p e =
      record {
        within = w;
        few_members = omega arith;
        known = omega arith;
        mosaic = mosaic_head_sound s (st.at + 3) (within_by p (mosaic_head_values_lem s (st.at + 3) len _ _));
        sorting = k.sorting;
        flight = k.flight;
        in_none = λ q. absurd (omega arith);
        in_mosaic_holds = λ _. refl;
        in_sorting_holds = λ q. absurd (omega arith);
        before_flight = λ _. k.before_flight (omega arith);
        in_flight_lem = λ e. absurd (omega arith);
        after_order_holds = λ e. absurd (omega arith);
      }

  kept_mosaic_strip : Passed s st mosaic_strip_tag len → st.section ≡ in_mosaic → Kept s (next_reading s st mosaic_strip_tag len)
  unfolding next_reading next_section next_head next_members next_mosaic next_sorting next_flight ends_section with_mosaic_strip
  kept_mosaic_strip p e =
      let f = k.few_members in
      let m = k.in_mosaic_holds e in
      let r : st.members < most_strips = below _ _ (λ h. p.room_ok (TooMany.strip refl h)) in
      record {
        within = w;
        few_members = omega arith;
        known = omega arith;
        mosaic = mosaic_strip_sound s (st.at + 3) len st.mosaic k.mosaic (omega arith) (within_by p (mosaic_strip_values s (st.at + 3) len _ _));
        sorting = k.sorting;
        flight = k.flight;
        in_none = λ q. absurd (omega arith);
        in_mosaic_holds = λ _. ap (λ n. n + 1) m;
        in_sorting_holds = λ q. absurd (omega arith);
        before_flight = λ h. k.before_flight h;
        in_flight_lem = λ q. absurd (omega arith);
        after_order_holds = λ q. absurd (omega arith);
      }

  none_yet : (c : ℕ) → strips_in_all (with_sorting_head s c) ≡ 0
  unfolding strips_in_all with_sorting_head
  none_yet c = omega (arith, zeros_at 3 0, zeros_at 3 1, zeros_at 3 2)

  kept_sorting_head : Passed s st sorting_head_tag len → st.section < in_sorting → Kept s (next_reading s st sorting_head_tag len)
  unfolding next_reading next_section next_head next_members next_mosaic next_sorting next_flight ends_section
  kept_sorting_head p h =
      record {
        within = w;
        few_members = omega arith;
        known = omega arith;
        mosaic = k.mosaic;
        sorting = sorting_head_sound s (st.at + 3) (within_by p (sorting_head_values_lem s (st.at + 3) len _ _));
        flight = k.flight;
        in_none = λ q. absurd (omega arith);
        in_mosaic_holds = λ q. absurd (omega arith);
        in_sorting_holds = λ _. sym (none_yet (st.at + 3));
        before_flight = λ _. k.before_flight (omega arith);
        in_flight_lem = λ q. absurd (omega arith);
        after_order_holds = λ q. absurd (omega arith);
      }

  kept_sorting_strip : Passed s st sorting_strip_tag len → st.section ≡ in_sorting → Kept s (next_reading s st sorting_strip_tag len)
  unfolding next_reading next_section next_head next_members next_mosaic next_sorting next_flight ends_section
  kept_sorting_strip p e =
      let f = k.few_members in
      let r = within_by p (sorting_strip_values s (st.at + 3) len _ _) in
      record {
        within = w;
        few_members = omega arith;
        known = omega arith;
        mosaic = k.mosaic;
        sorting = sorting_strip_sound s (st.at + 3) len st.sorting k.sorting r (below _ _ (λ h. p.room_ok (TooMany.strip_of_desk_lem refl h)));
        flight = k.flight;
        in_none = λ q. absurd (omega arith);
        in_mosaic_holds = λ q. absurd (omega arith);
        in_sorting_holds = λ _. ap (λ n. n + 1) (k.in_sorting_holds e) ∙ sym (sorting_strip_more s (st.at + 3) len st.sorting k.sorting r);
        before_flight = λ h. k.before_flight h;
        in_flight_lem = λ q. absurd (omega arith);
        after_order_holds = λ q. absurd (omega arith);
      }

  kept_flight_head : Passed s st flight_head_tag len → st.section < in_flight → Kept s (next_reading s st flight_head_tag len)
  unfolding next_reading next_section next_head next_members next_mosaic next_sorting next_flight ends_section with_flight_head
  kept_flight_head p h =
      record {
        within = w;
        few_members = omega arith;
        known = omega arith;
        mosaic = k.mosaic;
        sorting = k.sorting;
        flight = flight_head_sound s (st.at + 3) len st.at (within_by p (flight_head_values_lem s (st.at + 3) len _ _));
        in_none = λ q. absurd (omega arith);
        in_mosaic_holds = λ q. absurd (omega arith);
        in_sorting_holds = λ q. absurd (omega arith);
        before_flight = λ q. absurd (omega arith);
        in_flight_lem = λ _. (refl, refl);
        after_order_holds = λ q. absurd (omega arith);
      }

  -- a block of either tag
  kept_block : (b : Block) → st.section ≡ in_flight → st.members < most_blocks → BlockSound b
      → Kept s (record {
        at = st.at + 3 + len;
        section = st.section;
        head = st.head;
        members = st.members + 1;
        mosaic = st.mosaic;
        sorting = st.sorting;
        flight = with_block b st.flight;
      })
  unfolding with_block
  kept_block b e room sound =
      let f = k.few_members in
      let i = k.in_flight_lem e in
      record {
        within = w;
        few_members = omega arith;
        known = omega arith;
        mosaic = k.mosaic;
        sorting = k.sorting;
        flight = block_sound b st.flight k.flight i.1 (omega (arith, i.0)) sound;
        in_none = λ q. absurd (omega arith);
        in_mosaic_holds = λ q. absurd (omega arith);
        in_sorting_holds = λ q. absurd (omega arith);
        before_flight = λ q. absurd (omega arith);
        in_flight_lem = λ _. (ap (λ n. n + 1) i.0, i.1);
        after_order_holds = λ q. absurd (omega arith);
      }

  kept_flight_block : Passed s st flight_block_tag len → st.section ≡ in_flight → Kept s (next_reading s st flight_block_tag len)
  unfolding next_reading next_section next_head next_members next_mosaic next_sorting next_flight ends_section
  kept_flight_block p e =
      kept_block _ e (below _ _ (λ h. p.room_ok (TooMany.block refl h)))
      (exact_block_sound s (st.at + 3) (within_by p (flight_block_values s (st.at + 3) len _ _)))

  kept_flight_window_block : Passed s st flight_window_block_tag len → st.section ≡ in_flight → Kept s (next_reading s st flight_window_block_tag len)
  unfolding next_reading next_section next_head next_members next_mosaic next_sorting next_flight ends_section
  kept_flight_window_block p e =
      kept_block _ e (below _ _ (λ h. p.room_ok (TooMany.window_block_holds refl h)))
      (window_block_sound s (st.at + 3) (within_by p (flight_window_block_values s (st.at + 3) len _ _)) (p.window_ok refl))

  kept_flight_order : Passed s st flight_order_tag len → st.section ≡ in_flight → Kept s (next_reading s st flight_order_tag len)
  unfolding next_reading next_section next_head next_members next_mosaic next_sorting next_flight ends_section with_order
  kept_flight_order p e =
      let f = k.few_members in
      let b = k.in_flight_lem e in
      record {
        within = w;
        few_members = omega arith;
        known = omega arith;
        mosaic = k.mosaic;
        sorting = k.sorting;
        flight = order_sound s (st.at + 3) st.at st.flight k.flight (rw b.0 at (p.order_ok refl));
        in_none = λ q. absurd (omega arith);
        in_mosaic_holds = λ q. absurd (omega arith);
        in_sorting_holds = λ q. absurd (omega arith);
        before_flight = λ q. absurd (omega arith);
        in_flight_lem = λ q. absurd (omega arith);
        after_order_holds = λ _. (b.0, refl);
      }

-- a field that passes its checks keeps what holds
module _ (s : List ℕ) (st : Reading) (tag len : ℕ) (k : Kept s st) (w : st.at + 3 + len ≤ length s) (p : Passed s st tag len) where
  at_tag : (t : ℕ) → tag ≡ t → (Passed s st t len → Kept s (next_reading s st t len)) → Kept s (next_reading s st tag len)
  at_tag t e f = subst (λ (x : ℕ). Passed s st x len → Kept s (next_reading s st x len)) (sym e) f p

  kept_case : Permitted tag st.section st.members → Kept s (next_reading s st tag len)
  kept_case (Permitted.mosaic_head_lem e h) = at_tag mosaic_head_tag e (λ q. kept_mosaic_head s st len k w q h)
  kept_case (Permitted.mosaic_strip_lem e h) = at_tag mosaic_strip_tag e (λ q. kept_mosaic_strip s st len k w q h)
  kept_case (Permitted.sorting_head_lem e h) = at_tag sorting_head_tag e (λ q. kept_sorting_head s st len k w q h)
  kept_case (Permitted.sorting_strip_holds e h) = at_tag sorting_strip_tag e (λ q. kept_sorting_strip s st len k w q h)
  kept_case (Permitted.flight_head_lem e h) = at_tag flight_head_tag e (λ q. kept_flight_head s st len k w q h)
  kept_case (Permitted.flight_block_holds e h) = at_tag flight_block_tag e (λ q. kept_flight_block s st len k w q h)
  kept_case (Permitted.flight_window_block_holds e h) = at_tag flight_window_block_tag e (λ q. kept_flight_window_block s st len k w q h)
  kept_case (Permitted.flight_order_holds e h l) = at_tag flight_order_tag e (λ q. kept_flight_order s st len k w q h)

  pub kept_next : Kept s (next_reading s st tag len)
  kept_next = kept_case p.tag_ok
