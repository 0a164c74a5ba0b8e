-- One more content joins those that a disk has had.
use Rattle.std.proofs.Common.{◌≡◌, ◌⊎◌, inl, inr, ⊎_elim, ℕ, zero, suc, ◌≤◌, List, [], ◌∷◌, ◌++◌, length, drop, Option, Some, None, refl, sym, subst, arith, length-append}
use Rattle.journal_disk.specs.Disks.{GoesOn}
use Rattle.journal_disk.specs.Memory.{HadBeen, IsSynced, memory_moment, kept_back, after_sync}

keeps : (past : List (List ℕ)) (content image : List ℕ) → HadBeen past image → HadBeen (past ++ content ∷ []) image
keeps [] content image had = absurd had
keeps (first ∷ past) content image (inl here) = inl here
keeps (first ∷ past) content image (inr there) = inr (keeps past content image there)

adds : (past : List (List ℕ)) (content image : List ℕ) → HadBeen (past ++ content ∷ []) image → HadBeen past image ⊎ (image ≡ content)
adds [] content image (inl here) = inr here
adds [] content image (inr none) = absurd none
adds (first ∷ past) content image (inl here) = inl (inl here)
adds (first ∷ past) content image (inr there) = ⊎_elim (λ had. inl (inr had)) (λ new. inr new) (adds past content image there)

newest : (past : List (List ℕ)) (content image : List ℕ) → image ≡ content → HadBeen (past ++ content ∷ []) image
newest [] content image is = inl is
newest (first ∷ past) content image is = inr (newest past content image is)

drop_push : (time : ℕ) (past : List (List ℕ)) (content : List ℕ) → time ≤ length past → drop time (past ++ content ∷ []) ≡ drop time past ++ content ∷ []
drop_push zero past content le = refl
drop_push (suc time) [] content le = absurd (omega arith)
drop_push (suc time) (first ∷ past) content le = drop_push time past content (omega arith)

-- since a time, with one more content
pushed : (time : ℕ) (past : List (List ℕ)) (content image : List ℕ) → time ≤ length past → HadBeen (drop time past) image ⊎ (image ≡ content) → HadBeen (drop time (past ++ content ∷ [])) image
pushed time past content image le was = subst (λ (l : List (List ℕ)). HadBeen l image) (sym (drop_push time past content le)) (⊎_elim (keeps (drop time past) content image) (newest (drop time past) content image) was)

popped : (time : ℕ) (past : List (List ℕ)) (content image : List ℕ) → time ≤ length past → HadBeen (drop time (past ++ content ∷ [])) image → HadBeen (drop time past) image ⊎ (image ≡ content)
popped time past content image le had = adds (drop time past) content image (subst (λ (l : List (List ℕ)). HadBeen l image) (drop_push time past content le) had)

still_synced : (synced : Option (List ℕ)) (bytes image : List ℕ) → IsSynced synced image → IsSynced (kept_back synced bytes) image
still_synced None bytes image is = absurd is
still_synced (Some synced) bytes image is = is

written : (bytes next : List ℕ) (synced : Option (List ℕ)) (past : List (List ℕ)) (faults more : ℕ) → GoesOn (memory_moment bytes synced past faults) (memory_moment next (kept_back synced bytes) (past ++ bytes ∷ []) more)
written bytes next synced past faults more = record {
  later = omega (arith, length-append past (bytes ∷ []));
  nothing_else = λ time image le left. ⊎_elim (λ now. inr now) (λ had. inl (⊎_elim (λ before. inr before) (λ is. inl (inl is)) (popped time past bytes image le had))) left;
  keeps = λ time image le left.
      ⊎_elim (λ now. ⊎_elim (λ is. inr (pushed time past bytes image le (inr is))) (λ is. inl (inr (still_synced synced bytes image is))) now) (λ had. inr (pushed time past bytes image le (inl had))) left;
}

settled : (bytes : List ℕ) (synced : Option (List ℕ)) (past : List (List ℕ)) (faults more : ℕ) → GoesOn (memory_moment bytes synced past faults) (memory_moment bytes None (after_sync past synced) more)
settled bytes None past faults more = record { later = omega arith; nothing_else = λ time image le left. inl left; keeps = λ time image le left. left }
settled bytes (Some synced) past faults more = record {
  later = omega (arith, length-append past (synced ∷ []));
  nothing_else = λ time image le left. ⊎_elim (λ now. inr now) (λ had. inl (⊎_elim (λ before. inr before) (λ is. inl (inr is)) (popped time past synced image le had))) left;
  keeps = λ time image le left.
      ⊎_elim (λ now. ⊎_elim (λ is. inl (inl is)) (λ is. inr (pushed time past synced image le (inr is))) now) (λ had. inr (pushed time past synced image le (inl had))) left;
}

-- after a write
pub written_on : (bytes next : List ℕ) (synced others : Option (List ℕ)) (past more : List (List ℕ)) (faults now : ℕ) → others ≡ kept_back synced bytes → more ≡ past ++ bytes ∷ [] → GoesOn (memory_moment bytes synced past faults) (memory_moment next others more now)
written_on bytes next synced others past more faults now others_are more_is =
    subst (λ (o : Option (List ℕ)). GoesOn (memory_moment bytes synced past faults) (memory_moment next o more now)) (sym others_are)
    (subst (λ (l : List (List ℕ)). GoesOn (memory_moment bytes synced past faults) (memory_moment next (kept_back synced bytes) l now)) (sym more_is) (written bytes next synced past faults now))

-- after a sync
pub settled_on : (bytes next : List ℕ) (synced others : Option (List ℕ)) (past more : List (List ℕ)) (faults now : ℕ) → next ≡ bytes → others ≡ None → more ≡ after_sync past synced → GoesOn (memory_moment bytes synced past faults) (memory_moment next others more now)
settled_on bytes next synced others past more faults now same others_are more_is =
    subst (λ (b : List ℕ). GoesOn (memory_moment bytes synced past faults) (memory_moment b others more now)) (sym same)
    (subst (λ (o : Option (List ℕ)). GoesOn (memory_moment bytes synced past faults) (memory_moment bytes o more now)) (sym others_are)
    (subst (λ (l : List (List ℕ)). GoesOn (memory_moment bytes synced past faults) (memory_moment bytes None l now)) (sym more_is) (settled bytes synced past faults now)))
