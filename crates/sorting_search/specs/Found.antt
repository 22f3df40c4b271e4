-- What best_interleaving is lent and what it hands out. The search starts from the greedy figure plus one, and returns what it returns from no incumbent: the
-- first best list. The table is what the search with its cuts leaves, and it holds for the figure found.
use Rattle.std.specs.Prelude.{◌≡◌, ℕ, ◌+◌, ◌≤◌, length}
use Rattle.std.proofs.Common.{sym, subst, ◌∙◌, arith}
use Rattle.std.proofs.Math.Path.{ap}
use mathlib.Core.List.{List}
use Rattle.std.proofs.Math.ListN.{get_or}
use Rattle.sheet.specs.Limits.{table_length}
use Rattle.interleaving.specs.declared.State.{State}
use Rattle.interleaving.specs.declared.Incumbent.{Incumbent}
use Rattle.interleaving.specs.Instance.{Instance, cost_cap}
use Rattle.interleaving.specs.Search.{search_from, start_state, first_best, no_incumbent}
use Rattle.interleaving.specs.Consistent.{Consistent}
use Rattle.interleaving.proofs.Consistent.{consistent_start}
use Rattle.interleaving.proofs.AnyIncumbent.{any_incumbent}
use Rattle.sorting_bounds.specs.Layout.{labels_length, search_length}
use Rattle.sorting_bounds.specs.ScannerBound.{filled_from}
use Rattle.sorting_bounds.specs.ScannerTable.{Filled}
use Rattle.sorting_bounds.proofs.ScannerTable.{filled}
use Rattle.sorting_labels.specs.Labels.{no_labels_to}
use Rattle.sorting_labels.proofs.Labels.{cleared_length, cleared_label, cleared_rest}
use Rattle.sorting_labels.proofs.Memory.{labels_none}
use Rattle.sorting_search.specs.CutSearch.{Outcome, outcome, cut_search}
use Rattle.sorting_search.specs.Table.{TableHolds, SameFrom, SearchPre, Searched}
use Rattle.sorting_search.specs.Greedy.{greedy_figure, LowerBoundPre, GreedyFigure, greedy_figure_lem}

pub record BestInterleavingPre (J M : List ℕ) : Type 0 where
  pub jobs : Instance J
  pub size : length M ≡ table_length

-- the table M where the search starts: no label, and the scanner's entries
unfoldable pub start_table : List ℕ → List ℕ → List ℕ
start_table J M = filled_from J (no_labels_to labels_length M) 343

-- an incumbent of the greedy figure g plus one, with no list
abbrev pub above_greedy : ℕ → Incumbent
above_greedy g = record { figure = g + 1; path = 0 }

-- the table M as the search leaves it
unfoldable pub searched_table : List ℕ → List ℕ → List ℕ
searched_table J M =
    (cut_search J (start_state J).left (start_state J) (outcome (above_greedy (greedy_figure J (start_table J M) (start_state J))) (start_table J M))).table

-- The working table M after the search, which found the figure B. The caller clears it.
pub record Used (J M N : List ℕ) (B : ℕ) : Type 0 where
  -- it is what the search with its cuts leaves
  pub exact : N ≡ searched_table J M
  -- it holds what the search keeps true of it
  pub holds : TableHolds J N B
  -- the scanner's entries are those of the start
  pub entries : SameFrom labels_length (start_table J M) N
  -- the numbers behind them are as they were
  pub rest : SameFrom search_length M N

pub record Found (J M N : List ℕ) (r : Incumbent) : Type 0 where
  pub found : r ≡ first_best J
  pub table : Used J M N r.figure

-- the table once its labels are cleared and its entries are filled
start_filled : {J M N : List ℕ} → BestInterleavingPre J M → N ≡ no_labels_to labels_length M → Filled J N (filled_from J N 343) 0
start_filled {J} {M} {N} h c = filled J N (ap length c ∙ cleared_length labels_length M (omega (arith, h.size)) ∙ h.size) 343 (omega arith)

module _ {J M N O : List ℕ} where
  table_start : {B : ℕ} → BestInterleavingPre J M → N ≡ no_labels_to labels_length M → O ≡ filled_from J N 343 → TableHolds J O B
  table_start {B} h c e = subst (λ (x : List ℕ). TableHolds J x B) (sym e) (made (start_filled h c))
    where
      made : Filled J N (filled_from J N 343) 0 → TableHolds J (filled_from J N 343) B
      made f = record {
        size = f.size;
        labels = labels_none J h.jobs (filled_from J N 343) B (λ i p. f.labels i p ∙ ap (λ (x : List ℕ). get_or x i 0) c ∙ cleared_label labels_length M i p);
        entries = f.entries;
      }

  table_used : {P : List ℕ} {B : ℕ} → BestInterleavingPre J M → N ≡ no_labels_to labels_length M → O ≡ filled_from J N 343 → P ≡ searched_table J M
      → TableHolds J P B → SameFrom labels_length O P → Used J M P B
  unfolding start_table SameFrom
  table_used {P} {B} h c e x t q = record {
    exact = x;
    holds = t;
    entries = λ x l. q x l ∙ ap (λ (y : List ℕ). get_or y x 0) (e ∙ ap (λ (y : List ℕ). filled_from J y 343) c);
    rest =
        λ x l. q x (omega arith) ∙ ap (λ (y : List ℕ). get_or y x 0) e ∙ (start_filled h c).rest x l ∙ ap (λ (y : List ℕ). get_or y x 0) c ∙ cleared_rest labels_length M x (omega arith);
  }

module _ {J M N O : List ℕ} {s : State} where
  pub lower_bound_pre_start : BestInterleavingPre J M → N ≡ no_labels_to labels_length M → O ≡ filled_from J N 343 → s ≡ start_state J → LowerBoundPre J s O
  lower_bound_pre_start h c f e = made (table_start {B = 0} h c f)
    where
      made : TableHolds J O 0 → LowerBoundPre J s O
      made t = record { jobs = h.jobs; state = subst (Consistent J) (sym e) (consistent_start J h.jobs); size = t.size; entries = t.entries }

  pub search_pre_start : {B : ℕ} → BestInterleavingPre J M → N ≡ no_labels_to labels_length M → O ≡ filled_from J N 343 → s ≡ start_state J → SearchPre J s B O
  search_pre_start h c f e = record { jobs = h.jobs; state = subst (Consistent J) (sym e) (consistent_start J h.jobs); table = table_start h c f }

  -- the search from there, by its definition
  searched_is : {P : List ℕ} {g : ℕ} {r : Incumbent} → BestInterleavingPre J M → N ≡ no_labels_to labels_length M → O ≡ filled_from J N 343 → s ≡ start_state J
      → g ≡ greedy_figure J O s → Searched J s (above_greedy g) O P r → P ≡ searched_table J M
  unfolding searched_table start_table
  searched_is {P} {g} {r} h c f e w q =
      ap (λ (o : Outcome). o.table) q.exact ∙ ap (λ (x : State). (cut_search J x.left x (outcome (above_greedy g) O)).table) e
      ∙ ap (λ (x : ℕ). (cut_search J (start_state J).left (start_state J) (outcome (above_greedy x) O)).table) (w ∙ ap (greedy_figure J O) e)
      ∙ ap (λ (x : List ℕ). (cut_search J (start_state J).left (start_state J) (outcome (above_greedy (greedy_figure J x (start_state J))) x)).table) (f ∙ ap (λ (x : List ℕ). filled_from J x 343) c)

  pub found : {P : List ℕ} {g : ℕ} {r : Incumbent} → BestInterleavingPre J M → N ≡ no_labels_to labels_length M → O ≡ filled_from J N 343 → s ≡ start_state J
      → (g ≡ greedy_figure J O s) × (g ≤ cost_cap) → Searched J s (above_greedy g) O P r → Found J M P r
  unfolding first_best
  found {P} {g} {r} h c f e w q =
      record { found = first (greedy_figure_lem (lower_bound_pre_start h c f e) w); table = table_used h c f (searched_is h c f e w.0 q) q.table q.behind }
    where
      first : GreedyFigure J s g → r ≡ search_from J (start_state J).left (start_state J) no_incumbent
      first w =
          q.found
          ∙ any_incumbent J s.left s (above_greedy g) no_incumbent w.end w.completes (omega (arith, w.figure)) (omega (arith, w.figure, w.small)) (omega arith) (omega arith)
          ∙ ap (λ (x : State). search_from J x.left x no_incumbent) e
