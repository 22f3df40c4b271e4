-- A call with a page buffer that is large enough leaves the page, or nothing where it is refused.
use Rattle.std.specs.Prelude.{ℕ, ◌≤◌, ◌≡◌, refl, Bool, true, false, List, [], length, take, eqb}
use Rattle.std.proofs.Math.Path.{subst}
use Rattle.std.proofs.Common.{arith, le-ltb}
use Rattle.base.specs.declared.Answer.{Answer}
use Rattle.field.specs.Put.{holding}
use Rattle.sheet.specs.Limits.{page_length}
use Rattle.judge.specs.Judged.{judged}
use Rattle.page.specs.Call.{Paged, page_answer, paged_bytes, printed_answer, printed}
use Rattle.reply.specs.Reply.{reply_bytes, Replied, ReplyPre, CallLeaves, reply_asked, replied}
use Rattle.print_page.specs.Reply.{page_reply}

-- the length that is answered is the page's, and a plan that is refused has no page
sized : (sheet plan : List ℕ) (b : Bool) → eqb (judged sheet plan).number 0 ≡ b
    → ((printed_answer sheet plan).length ≡ length (printed sheet plan)) × (((printed_answer sheet plan).number ≡ 0 → ⊥) → printed sheet plan ≡ [])
unfolding printed_answer printed
sized sheet plan true e = rw e (refl, λ z. absurd (z refl))
sized sheet plan false e = rw e (refl, λ z. refl)

module _ (sheet plan out after : List ℕ) (a : Answer) (large : page_length ≤ length out) (called : Paged sheet plan out after a) where
  answer_is : a ≡ printed_answer sheet plan
  unfolding page_answer
  answer_is = rw (le-ltb (length out) page_length large) at called.answer

  page_is : after ≡ holding (printed sheet plan) out
  unfolding paged_bytes
  page_is = rw (le-ltb (length out) page_length large) at called.buffer

  page_left : CallLeaves (printed sheet plan) out after a
  page_left =
      let both = sized sheet plan _ refl in
      rw answer_is (record { buffer = page_is; length_is = both.0; none = both.1 })

  pub page_asked : ReplyPre after a
  page_asked = reply_asked (printed sheet plan) out after a page_left (omega (arith, large))

  pub page_replied : (end : List ℕ) (r : ℕ) → Replied (reply_bytes a (take a.length after)) after end r → Replied (page_reply sheet plan) out end r
  unfolding page_reply
  page_replied end r p =
      subst (λ (x : Answer). Replied (reply_bytes x (printed sheet plan)) out end r) answer_is (replied (printed sheet plan) out after a page_left end r p)
