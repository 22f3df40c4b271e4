-- The working table during the search, the contracts of the search, and the laws that its proof cites: with its cuts it finds what the search without cuts
-- finds.
use Rattle.std.specs.Prelude.{◌≡◌, Bool, ◌||◌, List, ◌⊎◌, ℕ, ◌+◌, ◌-◌, ◌≤◌, ◌<◌, length, get_or, ltb, leb}
use Rattle.std.proofs.Math.Path.{refl, sym, ap}
use Rattle.std.proofs.Common.{subst, ◌∙◌, inl, inr, arith}
use Rattle.std.proofs.Math.Bool.{true, false, or-true}
use borrow.Author.Tests.{ltb-true, leb-true, le-leb, lt-leb}
use Rattle.sheet.specs.Limits.{table_length}
use Rattle.interleaving.specs.declared.State.{State}
use Rattle.interleaving.specs.declared.Incumbent.{Incumbent}
use Rattle.interleaving.specs.Instance.{Instance}
use Rattle.interleaving.specs.Search.{StripLeft, step_of, keep, over_desks, branch, search_from, LowerBound}
use Rattle.interleaving.proofs.SearchLaws.{over_none, branch_again_yes, branch_again_no, step_left, search_leaf, search_desks, search_stays, bound_down}
use Rattle.interleaving.specs.Caps.{StepPre}
use Rattle.interleaving.specs.Consistent.{Consistent}
use Rattle.interleaving.proofs.Consistent.{consistent_step}
use Rattle.sorting_bounds.specs.Layout.{count_key, labels_length}
use Rattle.sorting_bounds.specs.DeskBound.{bound_cap, desk_bound}
use Rattle.sorting_bounds.proofs.DeskBound.{desk_bound_holds}
use Rattle.sorting_bounds.specs.ScannerBound.{EntriesFrom, scanner_bound}
use Rattle.sorting_bounds.proofs.ScannerBound.{entries_same, scanner_bound_holds}
use Rattle.sorting_labels.specs.Labels.{dominated_by, with_label}
use Rattle.sorting_labels.proofs.Labels.{either, one_dominates}
use Rattle.sorting_labels.specs.Memory.{LabelsHold}
use Rattle.sorting_labels.proofs.Memory.{labels_search, labels_bound, stored_behind, stored_length}
use Rattle.sorting_labels.proofs.LabelStored.{labels_done}
use Rattle.sorting_search.specs.CutSearch.{is_cut, outcome, cut_search, exact_leaf, exact_cut, exact_all}

-- what the table holds while the incumbent's figure is B
pub record TableHolds (J M : List ℕ) (B : ℕ) : Type 0 where
  -- it has its length
  pub size : length M ≡ table_length
  -- the labels, at its front: no completion of a state that one of them dominates is below B
  pub labels : LabelsHold J M B
  -- the scanner's entries, behind the labels: the one of a count vector is no more than what is left to add there, with every desk always free
  pub entries : EntriesFrom J M 0

-- from n on N is as M
unfoldable pub SameFrom : ℕ → List ℕ → List ℕ → Type 0
SameFrom n M N = (x : ℕ) → n ≤ x → get_or N x 0 ≡ get_or M x 0

same_trans : (n : ℕ) (M N O : List ℕ) → SameFrom n M N → SameFrom n N O → SameFrom n M O
unfolding SameFrom
same_trans n M N O p q x l = q x l ∙ p x l

-- what the search asks and what it gives: incumbent and table as the search with its cuts has them, and the incumbent as the search without cuts finds it.
-- Behind the labels it changes nothing.
pub record SearchPre (J : List ℕ) (s : State) (B : ℕ) (M : List ℕ) : Type 0 where
  pub jobs : Instance J
  pub state : Consistent J s
  pub table : TableHolds J M B

pub record Searched (J : List ℕ) (s : State) (b : Incumbent) (M N : List ℕ) (r : Incumbent) : Type 0 where
  pub exact : outcome r N ≡ cut_search J s.left s (outcome b M)
  pub found : r ≡ search_from J s.left s b
  pub table : TableHolds J N r.figure
  pub behind : SameFrom labels_length M N

-- cut: what it asks, and its tests in turn
pub record CutPre (J : List ℕ) (s : State) (k B : ℕ) (M : List ℕ) : Type 0 where
  pub jobs : Instance J
  pub state : Consistent J s
  pub key : k ≡ count_key s
  pub small : k < 343
  pub table : TableHolds J M B

module _ (J : List ℕ) (s : State) (B : ℕ) (M : List ℕ) where
  pub cut_by_scanner : {v : ℕ} → (v ≡ scanner_bound M s) × (v ≤ bound_cap) → B ≤ v → true ≡ is_cut J M s B
  unfolding is_cut
  cut_by_scanner e l = rw (le-leb B (scanner_bound M s) (omega (arith, e.0)))

  pub cut_by_label : {k : ℕ} {q : Bool} → CutPre J s k B M → q ≡ dominated_by M k s 4 → q ≡ true → true ≡ is_cut J M s B
  unfolding is_cut
  cut_by_label {k} {q} h e t = rw yes (sym (or-true (leb B (scanner_bound M s))))
    where
      yes : dominated_by M (count_key s) s 4 ≡ true
      yes = ap (λ (x : ℕ). dominated_by M x s 4) (sym h.key) ∙ sym e ∙ t

  pub cut_by_desks : {w : ℕ} → (w ≡ desk_bound J s) × (w ≤ bound_cap) → B ≤ w → true ≡ is_cut J M s B
  unfolding is_cut
  cut_by_desks g l =
      rw (le-leb B (desk_bound J s) (omega (arith, g.0)), or-true (dominated_by M (count_key s) s 4)) (sym (or-true (leb B (scanner_bound M s))))

  pub cut_by_none : {k v w : ℕ} {q : Bool} → CutPre J s k B M → (v ≡ scanner_bound M s) × (v ≤ bound_cap) → v < B → q ≡ dominated_by M k s 4 → q ≡ false
      → (w ≡ desk_bound J s) × (w ≤ bound_cap) → w < B → false ≡ is_cut J M s B
  unfolding is_cut
  cut_by_none {k} {v} {w} {q} h e l f t g m = rw (lt-leb B (scanner_bound M s) (omega (arith, e.0)), no, lt-leb B (desk_bound J s) (omega (arith, g.0)))
    where
      no : dominated_by M (count_key s) s 4 ≡ false
      no = ap (λ (x : ℕ). dominated_by M x s 4) (sym h.key) ∙ sym f ∙ t

-- where a node is cut, no completion is below B
pub cut_bounds : {J : List ℕ} {s : State} {B : ℕ} {M : List ℕ} → SearchPre J s B M → is_cut J M s B ≡ true → LowerBound J s.left s B
unfolding is_cut
cut_bounds {J} {s} {B} {M} h e = go (either _ _ e)
  where
    go : (leb B (scanner_bound M s) ≡ true) ⊎ ((dominated_by M (count_key s) s 4 || leb B (desk_bound J s)) ≡ true) → LowerBound J s.left s B
    go (inl f) = bound_down J s.left s _ B (leb-true _ _ f) (scanner_bound_holds J M h.jobs h.table.entries s.left s h.state refl)
    go (inr f) = rest (either _ _ f)
      where
        rest : (dominated_by M (count_key s) s 4 ≡ true) ⊎ (leb B (desk_bound J s) ≡ true) → LowerBound J s.left s B
        rest (inl g) = labels_bound J M s B h.table.labels h.state (one_dominates M (count_key s) s 4 (omega arith) refl g)
        rest (inr g) = bound_down J s.left s _ B (leb-true _ _ g) (desk_bound_holds J h.jobs s.left s h.state refl)

-- the table holds for a smaller figure, and for a label more
table_search : {J M : List ℕ} (s : State) (b r : Incumbent) (k : ℕ) → TableHolds J M b.figure → r ≡ search_from J k s b → TableHolds J M r.figure
table_search {J} {M} s b r k t e = record { size = t.size; labels = labels_search J M k s b r t.labels e; entries = t.entries }

module _ {J M N : List ℕ} {s : State} (b : Incumbent) {r : Incumbent} {k : ℕ} where
  table_store : Instance J → Consistent J s → TableHolds J M r.figure → (k ≡ count_key s) × (k < 343) → N ≡ with_label M k s → r ≡ search_from J s.left s b
      → TableHolds J N r.figure
  table_store j g t e n w = record {
    size = ap length n ∙ stored_length M k s ∙ t.size;
    labels = labels_done J M N s b r k j t.size e n g t.labels w;
    entries = rw n (entries_same J M (with_label M k s) (stored_behind M k s e.1) t.entries);
  }

same_store : (M N : List ℕ) (s : State) (k : ℕ) → k < 343 → N ≡ with_label M k s → SameFrom labels_length M N
unfolding SameFrom
same_store M N s k l e = rw e (stored_behind M k s l)

-- search: a leaf, a cut, the loop over the desks, and what is returned after it
module _ {J M : List ℕ} {s : State} {b : Incumbent} where
  pub searched_leaf : {r : Incumbent} → SearchPre J s b.figure M → s.left ≡ 0 → r ≡ keep s b → Searched J s b M M r
  unfolding SameFrom
  searched_leaf {r} h e k =
      let w : r ≡ search_from J s.left s b = k ∙ sym (search_leaf J s b e) in record { exact = exact_leaf J M s b r e k; found = w; table = table_search s b r s.left h.table w; behind = λ x l. refl }

  pub searched_cut : {q : Bool} → SearchPre J s b.figure M → (s.left ≡ 0 → ⊥) → q ≡ is_cut J M s b.figure → q ≡ true → Searched J s b M M b
  unfolding SameFrom
  searched_cut h z c e = record {
    exact = exact_cut J M s b (omega arith) (sym c ∙ e);
    found = sym (search_stays J s.left s b (cut_bounds h (sym c ∙ e)));
    table = h.table;
    behind = λ x l. refl;
  }

-- what holds once the desks below d were searched
pub record Branched (J : List ℕ) (s : State) (b : Incumbent) (M N : List ℕ) (d : ℕ) (r : Incumbent) : Type 0 where
  pub desks : d ≤ 3
  pub exact : outcome r N ≡ over_desks (branch J (cut_search J (s.left - 1)) s) d (outcome b M)
  pub found : r ≡ over_desks (branch J (search_from J (s.left - 1)) s) d b
  pub table : TableHolds J N r.figure
  pub behind : SameFrom labels_length M N

pub branched_none : {J M : List ℕ} {s : State} {b : Incumbent} → SearchPre J s b.figure M → Branched J s b M M 0 b
unfolding SameFrom
branched_none {J} {M} {s} {b} h =
    record { desks = omega arith; exact = over_none _ (outcome b M); found = over_none _ b; table = h.table; behind = λ x l. refl }

module _ {J M N : List ℕ} {s : State} {b : Incumbent} where
  pub branched_no : {d : ℕ} {r : Incumbent} → Branched J s b M N d r → d < 3 → get_or J d 0 ≤ get_or s.taken d 0 → Branched J s b M N (d + 1) r
  branched_no {d} {r} h l m = record {
    desks = omega arith;
    exact = branch_again_no J (cut_search J (s.left - 1)) s d (outcome b M) (outcome r N) h.exact m;
    found = branch_again_no J (search_from J (s.left - 1)) s d b r h.found m;
    table = h.table;
    behind = h.behind;
  }

  pub branched_yes : {d : ℕ} {q r : Incumbent} {n : State} {O : List ℕ} → Branched J s b M N d q → d < 3 → StripLeft J s d → n ≡ step_of J s d
      → Searched J n q N O r → Branched J s b M O (d + 1) r
  branched_yes {d} {q} {r} {n} {O} h l m e w = record {
    desks = omega arith;
    exact =
        branch_again_yes J (cut_search J (s.left - 1)) s d (outcome b M) (outcome q N) n (outcome r O) h.exact m e
        (w.exact ∙ ap (λ (k : ℕ). cut_search J k n (outcome q N)) less);
    found = branch_again_yes J (search_from J (s.left - 1)) s d b q n r h.found m e (w.found ∙ ap (λ (k : ℕ). search_from J k n q) less);
    table = w.table;
    behind = same_trans labels_length M N O h.behind w.behind;
  }
    where
      less : n.left ≡ s.left - 1
      less = ap (λ (x : State). x.left) e ∙ step_left J s d

pub branched_same : {J M N O : List ℕ} {s : State} {b r q : Incumbent} {d : ℕ} → N ≡ O → r ≡ q → Branched J s b M O d q → Branched J s b M N d r
branched_same {J} {M} {N} {O} {s} {b} {r} {q} {d} e w h =
    subst (λ (x : List ℕ). Branched J s b M x d r) (sym e) (subst (λ (x : Incumbent). Branched J s b M O d x) (sym w) h)

pub can_serve : {J M : List ℕ} {s : State} {B d : ℕ} {q : Bool} → SearchPre J s B M → (s.left ≡ 0 → ⊥) → d < 3 → q ≡ ltb (get_or s.taken d 0) (get_or J d 0)
    → q ≡ true → StepPre J s d
can_serve h n p e t = record { jobs = h.jobs; capped = h.state.fits; desk = p; strip = ltb-true _ _ (sym e ∙ t); left = omega arith }

pub step_less : {J : List ℕ} {s n : State} {d t : ℕ} → StepPre J s d → n ≡ step_of J s d → s.left ≡ t → n.left < t
step_less {J} {s} {n} {d} c e q = rw (e, step_left J s d) (omega (arith, c.left))

pub search_pre_step : {J L M N : List ℕ} {s n : State} {b r : Incumbent} {B d : ℕ} → SearchPre J s B N → StepPre J s d → Branched J s b L M d r
    → n ≡ step_of J s d → SearchPre J n r.figure M
search_pre_step {J} {L} {M} {N} {s} {n} {b} {r} {B} {d} a c h e = record {
  jobs = a.jobs;
  state = subst (Consistent J) (sym e) (consistent_step J a.jobs s a.state d c.desk c.strip c.left);
  table = h.table;
}

pub searched_all : {J M N O : List ℕ} {s : State} {b r : Incumbent} {d k : ℕ} {q : Bool} → SearchPre J s b.figure M → (s.left ≡ 0 → ⊥)
    → q ≡ is_cut J M s b.figure → q ≡ false → Branched J s b M N d r → 3 ≤ d → (k ≡ count_key s) × (k < 343) → O ≡ with_label N k s → Searched J s b M O r
searched_all {J} {M} {N} {O} {s} {b} {r} {d} {k} a z c f h l e p =
    let w : r ≡ search_from J s.left s b = search_desks J s b r d (omega arith) h.desks l h.found in
    record {
      exact = exact_all J M s b N O r d k (omega arith) (sym c ∙ f) h.desks l h.exact e.0 p;
      found = w;
      table = table_store b a.jobs a.state h.table e p w;
      behind = same_trans labels_length M N O h.behind (same_store N O s k e.1 p);
    }
