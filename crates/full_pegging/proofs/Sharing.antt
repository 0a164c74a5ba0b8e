-- Shares grow row by row.
use Rattle.std.proofs.Common.{◌≡◌, ℕ, zero, suc, ◌+◌, ◌*◌, ◌<◌, length, take, get_or, List, [], ◌∷◌, ◌++◌, map, refl, sym, ◌∙◌, ap, arith, append_assoc, Bool, true, false, cond}
use Rattle.std.proofs.lemmas.List.{map-append}
use Rattle.std.proofs.lemmas.List.Elements.{filter_map-append, filter-append}
use Rattle.std.proofs.lemmas.Grind.{flat_map-append}
use Rattle.std.proofs.lemmas.List.Sums.{sum_by-cons}
use Rattle.std.specs.Arc.{arc_value}
use Rattle.std.specs.declared.sync.Arc.{Arc}
use Rattle.record_versions.specs.declared.version.VersionId.{VersionId}
use Rattle.record_versions.specs.Shown.{cells_of}
use Rattle.walk_rules.specs.Cells.{records}
use Rattle.std.specs.Prelude.{Option, Some, None, nat_lt, filter, option_to_list}
use Rattle.std.specs.List.{cons_option, filter_map}
use Rattle.plan_schema.specs.declared.key.Key.{Key}
use Rattle.plan_schema.specs.declared.key.Record.{Record}
use Rattle.planning_rules.specs.Trace.{End, same_end}
use Rattle.full_pegging.specs.declared.share.Share.{Share}
use Rattle.full_pegging.specs.Following.{shown_share, landed_weight}
use Rattle.full_pegging.specs.Shares.{share_at, landed_at, shares_by}

abbrev Rows : Type 0
Rows = List (Key × Record)

pub nothing_more : {A : Type 0} (xs : List A) → xs ++ [] ≡ xs
nothing_more [] = refl
nothing_more (x ∷ xs) = ap (λ ys. x ∷ ys) (nothing_more xs)

-- the shares of more ends
pub shares_more : (count : End → ℕ) (ends more : List End) → shares_by count (ends ++ more) ≡ shares_by count ends ++ shares_by count more
shares_more count ends more =
    ap (filter (λ share. nat_lt 0 share.1)) (map-append (λ end. (end, count end)) ends more)
    ∙ filter-append (λ share. nat_lt 0 share.1) (map (λ end. (end, count end)) ends) (map (λ end. (end, count end)) more)

-- the rows up to those that are left have their shares behind those before
pub record SharedSoFar (end_of : (Key × Record) → Option End) (count : End → ℕ) (cell rest : List (Key × Record)) (before shares : List (End × ℕ)) : Type 0 where
  pub done : List (Key × Record)
  pub split : cell ≡ done ++ rest
  pub shares_are : shares ≡ before ++ shares_by count (filter_map end_of done)

one_end : (o : Option End) → cons_option o [] ≡ option_to_list o
one_end None = refl
one_end (Some e) = refl

one_row : (end_of : (Key × Record) → Option End) (row : Key × Record) → filter_map end_of (row ∷ []) ≡ option_to_list (end_of row)
one_row end_of row = one_end (end_of row)

module _ (end_of : (Key × Record) → Option End) (count : End → ℕ) where
  pub shared_begin : (cell : Rows) (shares : List (End × ℕ)) → SharedSoFar end_of count cell cell shares shares
  shared_begin cell shares = record { done = []; split = refl; shares_are = sym (nothing_more shares) }

  pub shared_next : (cell rest : Rows) (before : List (End × ℕ)) (shares some more : List Share) (row : Key × Record) → SharedSoFar end_of count cell (row ∷ rest) before (map shown_share shares)
      → more ≡ shares ++ some → map shown_share some ≡ shares_by count (option_to_list (end_of row)) → SharedSoFar end_of count cell rest before (map shown_share more)
  shared_next cell rest before shares some more row s grown one = record {
    done = s.done ++ row ∷ [];
    split = s.split ∙ sym (append_assoc s.done (row ∷ []) rest);
    shares_are =
        ap (map shown_share) grown ∙ map-append shown_share shares some ∙ (λ i. s.shares_are i ++ one i)
        ∙ append_assoc before (shares_by count (filter_map end_of s.done)) (shares_by count (option_to_list (end_of row)))
        ∙ ap (λ l. before ++ l) (sym (ap (shares_by count) (filter_map-append end_of s.done (row ∷ []) ∙ ap (λ e. filter_map end_of s.done ++ e) (one_row end_of row)) ∙ shares_more count (filter_map end_of s.done) (option_to_list (end_of row))));
  }

  pub shared_end : (cell : Rows) (before shares : List (End × ℕ)) → SharedSoFar end_of count cell [] before shares → shares ≡ before ++ shares_by count (filter_map end_of cell)
  shared_end cell before shares s =
      let whole : s.done ≡ cell = sym (nothing_more s.done) ∙ sym s.split in
      s.shares_are ∙ ap (λ (rows : Rows). before ++ shares_by count (filter_map end_of rows)) whole

-- counts that are equal tell the same
pub shares_alike : (f g : End → ℕ) → ((end : End) → f end ≡ g end) → (ends : List End) → shares_by f ends ≡ shares_by g ends
shares_alike f g h ends = λ i. filter (λ share. nat_lt 0 share.1) (map (λ end. (end, h end i)) ends)

-- what is at an end is what units weigh that count 1 there
one_share : (end : End) (qty : ℕ) (b : Bool) → cond b qty 0 ≡ qty * cond b 1 0
one_share end qty true = omega arith
one_share end qty false = omega arith

pub landed_counts : (landed : List Share) (end : End) → landed_at landed end ≡ landed_weight (λ unit. cond (same_end end unit) 1 0) landed
landed_counts [] end = refl
landed_counts (share ∷ landed) end =
    let here = one_share end (shown_share share).1 (same_end end (shown_share share).0) in
    let rest = landed_counts landed end in
    let a = sum_by-cons (share_at end) share landed in
    let b = sum_by-cons (λ (s : Share). (shown_share s).1 * cond (same_end end (shown_share s).0) 1 0) share landed in
    omega (arith, here, rest, a, b)

-- the rows of one more cell
taken : {A : Type 0} (xs : List A) (i : ℕ) (d : A) → i < length xs → take (i + 1) xs ≡ take i xs ++ get_or xs i d ∷ []
taken [] i d low = absurd (omega arith)
taken (x ∷ xs) zero d low = refl
taken (x ∷ xs) (suc i) d low =
    let more : suc i + 1 ≡ suc (i + 1) = omega arith in
    let less : i < length xs = omega arith in
    ap (λ k. take k (x ∷ xs)) more ∙ ap (λ ys. x ∷ ys) (taken xs i d less)

module _ {Z : Type 0} where
  pub ends_more : (end_of : (Key × Record) → Option End) (cells : List (VersionId × Arc (List (Key × Record)) Z)) (i : ℕ) (item : VersionId × Arc (List (Key × Record)) Z) (rows : List (Key × Record)) → i < length cells
      → item ≡ get_or cells i item → rows ≡ arc_value item.1
      → filter_map end_of (records (cells_of (take (i + 1) cells))) ≡ filter_map end_of (records (cells_of (take i cells))) ++ filter_map end_of rows
  ends_more end_of cells i item rows low is told =
      let last : get_or cells i item ∷ [] ≡ item ∷ [] = ap (λ x. x ∷ []) (sym is) in
      let all : records (cells_of (take (i + 1) cells)) ≡ records (cells_of (take i cells)) ++ rows =
      ap (λ xs. records (cells_of xs)) (taken cells i item low ∙ ap (λ xs. take i cells ++ xs) last)
      ∙ ap records (map-append {B = VersionId × List (Key × Record)} (λ entry. (entry.0, arc_value entry.1)) (take i cells) (item ∷ []))
      ∙ flat_map-append (λ (cell : VersionId × List (Key × Record)). cell.1) (cells_of (take i cells)) (cells_of (item ∷ []))
      ∙ ap (λ rs. records (cells_of (take i cells)) ++ rs) (nothing_more (arc_value item.1) ∙ sym told) in
      ap (filter_map end_of) all ∙ filter_map-append end_of (records (cells_of (take i cells))) rows
