-- A source that is read piece by piece.
use Rattle.std.proofs.Common.{◌≡◌, ℕ, ◌+◌, ◌≤◌, ◌<◌, List, [], ◌++◌, length, take, drop, Option, Some, None, sym, ap, subst, ◌∙◌, take-add, length-append, length-drop, arith}
use Rattle.std.proofs.lemmas.List.{length-take, drop-drop, take_all}
use Rattle.plan_schema.specs.Outside.{Gave, GaveFront, LeavesEnd}
use Rattle.byte_lines.specs.ReadAll.{ReadFront, ReadWhole}

-- the bytes are a front of what was left, and the rest is left
pub record ReadSoFar (before : List ℕ) (now : Option (List ℕ)) (bytes : List ℕ) : Type 0 where
  pub within : length bytes ≤ length before
  pub front : bytes ≡ take (length bytes) before
  pub rest : now ≡ Some (drop (length bytes) before)

-- where what is left is told, a read gives a front of it
pub gave_front : (before bytes : List ℕ) (now after : Option (List ℕ)) (into : List ℕ) (n : ℕ) → ReadSoFar before now bytes → Gave now after into n → GaveFront (drop (length bytes) before) after into n
gave_front before bytes now after into n so_far given = subst (λ o. Gave o after into n) so_far.rest given

-- where what is left isn't told, a read tells nothing
pub gave_untold : (now after : Option (List ℕ)) (into : List ℕ) (n : ℕ) → now ≡ None → Gave now after into n → after ≡ None
gave_untold now after into n none given = subst (λ o. Gave o after into n) none given

-- a failed read behind a front leaves an end of all that was left
pub failed_behind : (before bytes : List ℕ) (now after : Option (List ℕ)) → ReadSoFar before now bytes → LeavesEnd now after → LeavesEnd (Some before) after
failed_behind before bytes now after so_far leaves =
    let end = subst (λ o. LeavesEnd o after) so_far.rest leaves in
    (length bytes + end.0, omega (arith, so_far.within, end.1, length-drop (length bytes) before), end.2 ∙ ap Some (drop-drop end.0 (length bytes) before))

-- where what is left isn't told, a failed read tells nothing
pub failed_untold : (now after : Option (List ℕ)) → now ≡ None → LeavesEnd now after → after ≡ None
failed_untold now after none leaves = subst (λ o. LeavesEnd o after) none leaves

module _ {before bytes : List ℕ} {now after : Option (List ℕ)} {into : List ℕ} {n : ℕ} (so_far : ReadSoFar before now bytes) (front : GaveFront (drop (length bytes) before) after into n) where
  -- no byte was left
  pub read_whole : 0 < length into → n ≡ 0 → ReadWhole before after bytes
  read_whole room none =
      let end : drop (length bytes) before ≡ [] = front.end room none in
      let over : length before ≤ length bytes = omega (arith, length-drop (length bytes) before, ap length end) in
      record { same = so_far.front ∙ take_all _ _ over; rest = front.rest ∙ ap (λ m. Some (drop m (drop (length bytes) before))) none ∙ ap Some end }

  -- a front was left by the last read
  pub read_front : (most : ℕ) → length bytes + n ≤ most → ReadFront before after most
  read_front most few = record {
    count = length bytes + n;
    within = omega (arith, so_far.within, front.within, length-drop (length bytes) before);
    few = few;
    rest = front.rest ∙ ap Some (drop-drop n (length bytes) before);
  }

  -- more bytes were left than are wanted
  pub read_large : (most : ℕ) → most < length bytes + n → most < length before
  read_large most more = omega (arith, so_far.within, front.within, length-drop (length bytes) before)

  -- the bytes are still a front
  pub read_more : n ≤ length into → ReadSoFar before after (bytes ++ take n into)
  read_more within =
      let long : length (bytes ++ take n into) ≡ length bytes + n = omega (arith, length-append bytes (take n into), length-take n into) in
      record {
        within = omega (arith, long, so_far.within, front.within, length-drop (length bytes) before);
        front = ap (λ xs. bytes ++ xs) front.given ∙ ap (λ xs. xs ++ take n (drop (length bytes) before)) so_far.front ∙ sym (take-add (length bytes) n before) ∙ ap (λ m. take m before) (sym long);
        rest = front.rest ∙ ap Some (drop-drop n (length bytes) before) ∙ ap (λ m. Some (drop m before)) (sym long);
      }
