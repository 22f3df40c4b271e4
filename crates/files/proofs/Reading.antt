-- What a reader had and has left, and the bytes at the start of a buffer that were read from it. What a writer had and has taken of a row of bytes.
use Rattle.std.proofs.Common.{◌≡◌, ℕ, ◌+◌, ◌-◌, List, ◌++◌, Option, sym, ap, ◌∙◌, subst, length, take, drop}
use Rattle.std.proofs.Math.Seq.{take-add}
use Rattle.std.specs.Io.KnownBytes.{Appends, Consumes}
use Rattle.std.proofs.KnownBytes.{Appends-trans, Consumes-trans}
use Rattle.std.proofs.lemmas.List.{take_rest}

-- one more read: what was read before it stays
pub consumes_more : (a b c : Option (List ℕ)) (at n : ℕ) (before after : List ℕ) → take at after ≡ take at before
    → Consumes a b (take at before) → Consumes b c (take n (drop at after)) → Consumes a c (take (at + n) after)
consumes_more a b c at n before after kept first second =
    let joined : take at before ++ take n (drop at after) ≡ take (at + n) after = ap (λ l. l ++ take n (drop at after)) (sym kept) ∙ sym (take-add at n after) in
    subst (Consumes a c) joined (Consumes-trans a b c (take at before) (take n (drop at after)) first second)

-- one more write, of bytes behind those that were written before
pub appends_more : (a b c : Option (List ℕ)) (bytes : List ℕ) (written n : ℕ) → Appends a b (take written bytes)
    → Appends b c (take n (take (length bytes - written) (drop written bytes))) → Appends a c (take (written + n) bytes)
appends_more a b c bytes written n first second =
    let rest : take (length bytes - written) (drop written bytes) ≡ drop written bytes = take_rest bytes written in
    let joined : take written bytes ++ take n (take (length bytes - written) (drop written bytes)) ≡ take (written + n) bytes =
    ap (λ l. take written bytes ++ take n l) rest ∙ sym (take-add written n bytes) in
    subst (Appends a c) joined (Appends-trans a b c _ _ first second)
