-- The parts of a frontier can be netted.
use Rattle.std.proofs.Common.{◌≡◌, ℕ, zero, suc, ◌+◌, ◌≤◌, List, [], ◌∷◌, ◌++◌, length, map, take, get_or, refl, sym, ◌∙◌, ap, subst, arith, true}
use Rattle.std.specs.Prelude.{Option, Some, None, slice_get, option_map, unwrap_or}
use Rattle.std.specs.List.{AllByRecursion, list_all, filter_map, cons_option}
use Rattle.std.specs.declared.sync.Arc.{Arc}
use Rattle.plan_schema.specs.declared.name.Name.{Name}
use Rattle.planning_rules.specs.Bills.{bills_of, parents}
use Rattle.planning_rules.specs.Days.{days_of}
use Rattle.planning_rules.specs.Netting.{limit}
use Rattle.planning_rules.specs.Plan.{Known, has_outcome, released}
use Rattle.record_versions.specs.declared.version.VersionId.{VersionId}
use Rattle.walk_rules.specs.Cells.{Cells, records}
use Rattle.walk_rules.specs.Rights.{AreRight}
use Rattle.walk_rules.specs.Steps.{step_from}
use Rattle.walk_rules.specs.Walks.{Parts, known_at, frontier, releases_of, result_of}
use Rattle.walk_rules.proofs.PutRight.{IsRelease, lists_release}
use Rattle.explosion.specs.Sums.{AreReleases}
use Rattle.plan_jobs.specs.declared.job.Job.{Job}
use Rattle.plan_walk.specs.declared.node.Node.{Node}
use Rattle.plan_walk.specs.Places.{parts_of, known_in, StandAt, lists_at}
use Rattle.plan_walk.specs.Nodes.{node_names, names_at, ups_at}
use Rattle.plan_walk.specs.Walk.{CanStep, IsWalk}
use Rattle.plan_walk.specs.Results.{told}
use Rattle.plan_walk.specs.FrontSteps.{AreAtFront, AreNetted}
use Rattle.plan_walk.proofs.Places.{each_at, outcomes_place, lists_place}
use Rattle.plan_walk.proofs.SoFar.{names_long, name_there, ups_there}
use Rattle.plan_walk.proofs.Taking.{get_map, take_next, ready_parts}
use Rattle.plan_walk.proofs.Fronts.{front_ready}

small_at : (xs : List ℕ) → AllByRecursion (λ qty. qty ≤ limit) xs → (t : ℕ) → get_or xs t 0 ≤ limit
small_at [] h t = omega arith
small_at (x ∷ xs) h zero = h.0
small_at (x ∷ xs) h (suc t) = small_at xs h.1 t

are_releases : (days : ℕ) (lists : List (List ℕ)) → AllByRecursion (IsRelease days) lists → AreReleases days lists
are_releases days [] h k l = absurd (omega arith)
are_releases days (list ∷ lists) h zero l = (h.0.0, small_at list h.0.1)
are_releases days (list ∷ lists) h (suc k) l = are_releases days lists h.1 k (omega arith)

map_long : {A B : Type 0} (f : A → B) (xs : List A) → length (map f xs) ≡ length xs
map_long f [] = refl
map_long f (x ∷ xs) = ap suc (map_long f xs)

stand_long : (ns : List Name) (qs : List ℕ) (ps : List Name) → StandAt ns qs ps → length qs ≡ length ps
stand_long ns [] [] h = refl
stand_long ns [] (p ∷ ps) h = absurd h
stand_long ns (q ∷ qs) [] h = absurd h
stand_long ns (q ∷ qs) (p ∷ ps) h = ap suc (stand_long ns qs ps h.1)

module _ (job : Job) (plan : VersionId) (nodes : List Node) (n : ℕ) (front : List ℕ) (ns : List Name) (w : IsWalk job plan nodes n front ns) (ks : List (Option Known)) (whole : length ks ≡ length nodes)
    (right : AreRight (records job.cells) (parts_of (node_names nodes) ks)) (exact : names_at (node_names nodes) front ≡ frontier (records job.cells) (parts_of (node_names nodes) ks)) where
  pub at_front : AreAtFront job.cells nodes ks front
  at_front k place node at is =
      let c = records job.cells in
      let parts = parts_of (node_names nodes) ks in
      let long : length ks ≡ length (node_names nodes) = whole ∙ sym (names_long nodes) in
      let name : slice_get (node_names nodes) place ≡ Some node.name = name_there nodes place node is in
      let ups : ups_at nodes place ≡ node.ups.items = ups_there nodes place node is in
      let stand : StandAt (node_names nodes) node.ups.items (parents c node.name) = subst (λ qs. StandAt (node_names nodes) qs (parents c node.name)) ups (w.fits.above place node.name name) in
      let ready = front_ready job.cells plan nodes w.graph w.fits ks whole front w.places exact k place at in
      let outcomes : list_all (λ q. has_outcome (known_in ks q)) node.ups.items ≡ true = subst (λ qs. list_all (λ q. has_outcome (known_in ks q)) qs ≡ true) ups (ready_parts (ups_at nodes place) ks place ready.1).1 in
      let by_name : list_all (λ p. has_outcome (known_at parts p)) (parents c node.name) ≡ true = outcomes_place (node_names nodes) ks w.graph.distinct long node.ups.items (parents c node.name) stand ∙ outcomes in
      let lists : releases_of c parts node.name ≡ lists_at ks node.ups.items = lists_place (node_names nodes) ks w.graph.distinct long node.ups.items (parents c node.name) stand in
      record {
        can = each_at (CanStep job.cells) (node_names nodes) place node.name w.steps name;
        outcomes = outcomes;
        lists = are_releases (days_of c) (lists_at ks node.ups.items) (subst (AllByRecursion (IsRelease (days_of c))) lists (lists_release c parts right (parents c node.name) by_name));
        each = sym (map_long (λ bill. bill.parent) (bills_of c node.name)) ∙ sym (stand_long (node_names nodes) node.ups.items (parents c node.name) stand) ∙ sym (map_long (λ q. released (known_in ks q)) node.ups.items);
        result = λ known step. ap (option_map (λ (x : Known). (node.name, x))) (ap (step_from c node.name) lists ∙ step);
        named = get_map (λ q. unwrap_or (slice_get (node_names nodes) q) []) front k ∙ ap (option_map (λ q. unwrap_or (slice_get (node_names nodes) q) [])) at ∙ ap (λ o. Some (unwrap_or o [])) name;
      }

-- so many of the names have been netted
pub record NetSoFar (cells : Cells) (parts : Parts) (names : List Name) (i : ℕ) (results : List (Name × Known)) (first steps : ℕ) : Type 0 where
  pub netted : AreNetted cells parts (take i names) results
  pub counted : steps ≡ first + i

filter_map_more : (f : Name → Option (Name × Known)) (ns : List Name) (n : Name) (r : Name × Known) → f n ≡ Some r → filter_map f (ns ++ n ∷ []) ≡ filter_map f ns ++ r ∷ []
filter_map_more f [] n r h = ap (λ o. cons_option o []) h
filter_map_more f (m ∷ ms) n r h = ap (cons_option (f m)) (filter_map_more f ms n r h) ∙ outside (f m) (filter_map f ms) r
  where
    outside : (o : Option (Name × Known)) (rs : List (Name × Known)) (r : Name × Known) → cons_option o (rs ++ r ∷ []) ≡ cons_option o rs ++ r ∷ []
    outside None rs r = refl
    outside (Some x) rs r = refl

map_more : (rs : List (Name × Known)) (r : Name × Known) → map (λ (x : Name × Known). x.0) (rs ++ r ∷ []) ≡ map (λ (x : Name × Known). x.0) rs ++ r.0 ∷ []
map_more [] r = refl
map_more (x ∷ xs) r = ap (λ ns. x.0 ∷ ns) (map_more xs r)

pub net_begins : (cells : Cells) (parts : Parts) (names : List Name) (steps : ℕ) → NetSoFar cells parts names 0 [] steps steps
net_begins cells parts names steps = record { netted = record { found = refl; named = refl }; counted = omega arith }

pub net_more : (cells : Cells) (parts : Parts) (names : List Name) (i : ℕ) (results more : List (Name × Known)) (first steps next : ℕ) (n : Name) (known : Known) → NetSoFar cells parts names i results first steps
    → slice_get names i ≡ Some n → result_of cells parts n ≡ Some (n, known) → more ≡ results ++ (n, known) ∷ [] → next ≡ steps + 1 → NetSoFar cells parts names (i + 1) more first next
net_more cells parts names i results more first steps next n known s at is joined counted =
    let count = s.counted in
    let k : suc i ≡ i + 1 = omega arith in
    let taken : take i names ++ n ∷ [] ≡ take (i + 1) names = sym (take_next names i n at) ∙ ap (λ j. take j names) k in
    record {
      netted = record {
        found = ap (filter_map (result_of cells parts)) (sym taken) ∙ filter_map_more (result_of cells parts) (take i names) n (n, known) is ∙ ap (λ rs. rs ++ (n, known) ∷ []) s.netted.found ∙ sym joined;
        named = ap (map (λ (x : Name × Known). x.0)) joined ∙ map_more results (n, known) ∙ ap (λ ns. ns ++ n ∷ []) s.netted.named ∙ taken;
      };
      counted = omega arith;
    }

module _ {Z : Type 0} where
  pub told_more : (xs : List (Name × Arc Known Z)) (n : Name) (a : Arc Known Z) (known : Known) → a.value ≡ known → told (xs ++ (n, a) ∷ []) ≡ told xs ++ (n, known) ∷ []
  told_more [] n a known e = ap (λ (x : Known). (n, x) ∷ []) e
  told_more (x ∷ xs) n a known e = ap (λ rs. (x.0, x.1.value) ∷ rs) (told_more xs n a known e)
