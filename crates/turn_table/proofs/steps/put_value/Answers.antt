use Rattle.std.proofs.Common.{◌≡◌, ◌<◌, ◌≤◌, ◌+◌, ◌%◌, ◌^◌, ◌∙◌, ◌∷◌, [], ℕ, arith, refl, sym, ap, subst, cond, Some, bit_or}
use Rattle.std.specs.Prelude.{Bool, true, false}
use mir.Val.{bool_byte}
use mathlib.Core.Option.{none}
use Rattle.atomic_table.specs.Table.{Allows, rest, step}
use Rattle.turn_table.specs.Rule.{Kept}
use Rattle.turn_table.specs.Steps.{Seated, Marked, Gave, with_mark}
use Rattle.turn_table.proofs.Moves.{mark-moves, give-moves, is-numbered, bit-one}
use Rattle.turn_table.proofs.steps.put_value.Goals as goal

byte-is : (b : Bool) → bool_byte b ≡ cond b 1 0
byte-is true = refl
byte-is false = refl

pub fetch_or-requires : goal.fetch_or-requires
fetch_or-requires g c =
    let story = g.T.Storied.story in
    let faults = g.T.Storied.faults in
    let basis = g.T.Storied.basis in
    let key = c.args.table.now.key in
    let slots = c.args.table.now.table_id.slots in
    let e = c.exchange-before.ensures in
    let v = c.args.seat.now.me.0 in
    let few : 4 < c.args.table.now.table_id.words = rw c.requires.words (omega arith) in
    let S : Type 0 = Seated g.row.T.Denot g.row.T-Entry.Denot g.row.T-Basis.Denot in
    let A : ℕ → S → Type 0 = λ n m. Allows (Kept story faults basis key) slots c.exchange-before.new.seat.id m 4 (λ w. bit_or w n) (Marked story faults basis (step slots 4 n 0 none) m) in
    let bit : c.from.result ≡ cond c.args.failed 1 0 = c.from.ensures ∙ byte-is c.args.failed in
    let me_is : c.exchange-before.new.seat.me ≡ (v, (0, Some c.args.value) ∷ []) = e.3 ∙ ap (λ l. (v, (0, Some c.args.value) ∷ rest l)) c.requires.slot in (
      e.0 ∙ c.requires.table,
      few,
      subst (A c.from.result) (sym me_is) (subst (λ n. A n (v, (0, Some c.args.value) ∷ [])) (sym bit)
          (mark-moves story faults basis key _ _ v c.args.value (cond c.args.failed 1 0) (is-numbered v c.args.number c.requires.number) c.requires.holder (bit-one c.args.failed) c.requires.faults)),
    )

pub fetch_add-requires : goal.fetch_add-requires
fetch_add-requires g c =
    let story = g.T.Storied.story in
    let faults = g.T.Storied.faults in
    let basis = g.T.Storied.basis in
    let key = c.args.table.now.key in
    let slots = c.args.table.now.table_id.slots in
    let e = c.exchange-before.ensures in
    let f = c.fetch_or.ensures in
    let r = c.requires in
    let v = c.args.seat.now.me.0 in
    let h = r.holder in
    let w = with_mark (cond c.args.failed 1 0) (faults c.args.value) v in
    let few : 3 < c.args.table.now.table_id.words = rw c.requires.words (omega arith) in
    let S : Type 0 = Seated g.row.T.Denot g.row.T-Entry.Denot g.row.T-Basis.Denot in
    let A : S → Type 0 = λ m. Allows (Kept story faults basis key) slots c.fetch_or.new.seat.id m 3 (λ n. (n + c.args.grew) % 2 ^ 64) (Gave story faults basis m) in
    let bit : c.from.result ≡ cond c.args.failed 1 0 = c.from.ensures ∙ byte-is c.args.failed in
    let me_is : c.exchange-before.new.seat.me ≡ (v, (0, Some c.args.value) ∷ []) = e.3 ∙ ap (λ l. (v, (0, Some c.args.value) ∷ rest l)) r.slot in
    let marked : c.fetch_or.new.seat.me ≡ (w, (0, Some c.args.value) ∷ []) =
    f.2 c.args.value (ap (λ (m : S). m.1) me_is) ∙ (ap (λ (m : S). (with_mark c.from.result (faults c.args.value) m.0, m.1)) me_is ∙ ap (λ n. (with_mark n (faults c.args.value) v, (0, Some c.args.value) ∷ [])) bit) in
    let same : faults c.args.value ≤ faults c.args.value = omega arith in (
      f.0 ∙ (e.0 ∙ r.table),
      few,
      subst A (sym marked) (give-moves story faults basis key _ _ w c.args.value c.args.number c.args.grew r.story.0 r.number
          (record { waits = h.waits; in_turn = h.in_turn; noted = h.noted; full = h.full; settled = h.settled }) r.story.1 r.story.3 r.story.2 same r.basis r.short),
    )
