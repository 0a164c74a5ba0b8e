-- A part of a walk that is traced, by its cell.
use Rattle.std.proofs.Common.{◌≡◌, ℕ, ◌<◌, ◌≤◌, List, [], ◌∷◌, map, refl, sym, ◌∙◌, ap, subst, true}
use Rattle.std.proofs.lemmas.List.Elements.{All-from_recursion}
use Rattle.std.specs.Prelude.{Some, All, Contains, length}
use Rattle.std.specs.List.{AllByRecursion}
use Rattle.plan_schema.specs.declared.name.Name.{Name}
use Rattle.plan_schema.specs.declared.limits.TheConstants.{RECORD_LIMIT}
use Rattle.plan_schema.specs.declared.change.CellName.TheVariants as names
use Rattle.plan_schema.specs.declared.key.Key.TheVariants as keys
use Rattle.plan_schema.specs.Contents.{Contents, record_at, cell_rows}
use Rattle.plan_schema.specs.Sound.{are_sound_rows}
use Rattle.planning_rules.specs.Days.{start_of, days_of}
use Rattle.planning_rules.specs.Netting.{limit}
use Rattle.planning_rules.specs.Pegs.{Peg as PlanPeg, pegs_from}
use Rattle.planning_rules.specs.Plan.{plan}
use Rattle.walk_rules.specs.Cells.{records}
use Rattle.walk_rules.specs.Walks.{names_of, known_at}
use Rattle.walk_rules.proofs.Local.{record_here}
use Rattle.explosion.specs.Sums.{AreReleases, asked_of, bills_in, demands_in}
use Rattle.pegging.specs.declared.source.Peg.{Peg}
use Rattle.pegging.specs.Pegs.{shown, pegs_by}
use Rattle.plan_jobs.specs.declared.job.Job.{Job}
use Rattle.plan_walk.specs.View.{View}
use Rattle.part_pegs.specs.Held.{rows_held}
use Rattle.part_pegs.specs.ParentLists.{parent_lists, parents_are_planned}
use Rattle.part_pegs.proofs.OwnPegs.{cell, parents_planned, lists_within, day_fits, pegs_are}
use Rattle.full_pegging.specs.Walking.{CanTrace}
use Rattle.full_pegging.proofs.Aiming.{part_planned}

-- what holds of the cell of a part
pub record Own (w : View) (n : Name) (rows : Contents) : Type 0 where
  pub planned : parents_are_planned (known_at w.parts) rows ≡ true
  pub lists : AreReleases (days_of (records w.job.cells)) (parent_lists (known_at w.parts) rows)
  pub few : length rows ≤ RECORD_LIMIT
  pub sound : are_sound_rows rows ≡ true
  pub fits : (t : ℕ) → t < days_of (records w.job.cells) → asked_of (start_of (records w.job.cells)) t (demands_in rows) (bills_in rows) (parent_lists (known_at w.parts) rows) ≤ limit
  pub pegs : (t : ℕ) → pegs_by rows (start_of (records w.job.cells)) t (parent_lists (known_at w.parts) rows) ≡ pegs_from (plan (records w.job.cells)) (records w.job.cells) n t
  pub rows_are : cell_rows (records w.job.cells) (names.Part n) ≡ rows
  pub bill_rows : (parent : Name) → record_at rows (keys.Bill parent n) ≡ record_at (records w.job.cells) (keys.Bill parent n)
  pub stock_row : record_at rows (keys.Stock n) ≡ record_at (records w.job.cells) (keys.Stock n)

module _ (w : View) (traced : CanTrace w) (n : Name) (there : Contains (names_of w.parts) n) where
  pub own_rows : (rows : Contents) → rows_held w.job.cells (names.Part n) ≡ Some rows → Own w n rows
  own_rows rows held =
      let job = traced.1.is_job in
      let known = part_planned w traced n there in
      let c = records w.job.cells in
      let mine = cell w.job.wanted w.job.cells n (known_at w.parts) job known rows held in
      record {
        planned = parents_planned w.job.wanted w.job.cells n (known_at w.parts) job known rows held;
        lists = lists_within w.job.wanted w.job.cells n (known_at w.parts) job known rows held;
        few = mine.few;
        sound = mine.sound;
        fits = day_fits w.job.wanted w.job.cells n (known_at w.parts) job known rows held;
        pegs = pegs_are w.job.wanted w.job.cells n (known_at w.parts) job known rows held;
        rows_are = mine.rows_are;
        bill_rows = λ parent. ap (λ rs. record_at rs (keys.Bill parent n)) (sym mine.rows_are) ∙ record_here c (keys.Bill parent n);
        stock_row = ap (λ rs. record_at rs (keys.Stock n)) (sym mine.rows_are) ∙ record_here c (keys.Stock n);
      }

  pub own_part : (job : Job) → job ≡ w.job → (rows : Contents) → rows_held job.cells (names.Part n) ≡ Some rows → Own w n rows
  own_part job is rows held = own_rows rows (subst (λ (j : Job). rows_held j.cells (names.Part n) ≡ Some rows) is held)

shown_all : (P : PlanPeg → Type 0) (ps : List Peg) → AllByRecursion P (map shown ps) → AllByRecursion (λ peg. P (shown peg)) ps
shown_all P [] h = tt
shown_all P (p ∷ ps) h = (h.0, shown_all P ps h.1)

pub all_shown : (P : PlanPeg → Type 0) (ps : List Peg) → AllByRecursion P (map shown ps) → All (λ peg. P (shown peg)) ps
all_shown P ps h = All-from_recursion (λ peg. P (shown peg)) ps (shown_all P ps h)

shown_pairs : (t : ℕ) (ps : List Peg) → map {B = ℕ × PlanPeg} (λ peg. (t, shown peg)) ps ≡ map {B = ℕ × PlanPeg} (λ (peg : PlanPeg). (t, peg)) (map shown ps)
shown_pairs t [] = refl
shown_pairs t (p ∷ ps) = ap (λ rest. (t, shown p) ∷ rest) (shown_pairs t ps)

pub shown_days : (t : ℕ) (ps : List Peg) (others : List PlanPeg) → map shown ps ≡ others → map {B = ℕ × PlanPeg} (λ peg. (t, shown peg)) ps ≡ map {B = ℕ × PlanPeg} (λ (peg : PlanPeg). (t, peg)) others
shown_days t ps others are = shown_pairs t ps ∙ ap (map {B = ℕ × PlanPeg} (λ (peg : PlanPeg). (t, peg))) are
