-- How a disk's moments follow each other.
use Rattle.std.proofs.Common.{inl, inr, ⊎_elim, ℕ, List, ◌∙◌, arith}
use Rattle.journal_disk.specs.Disks.{Moment, GoesOn, Looked, EachMoment}

pub looked_at_all : (moment : Moment) → Looked moment moment
looked_at_all moment = record {
  told = λ i. moment.told;
  images = λ image now. now;
  kept = λ image now. now;
  time = record { later = omega arith; nothing_else = λ time image le left. inl left; keeps = λ time image le left. left };
}

-- one call that changes nothing behind others
pub looked_on : (old mid new : Moment) → Looked old mid → Looked mid new → Looked old new
looked_on old mid new first second = record {
  told = second.told ∙ first.told;
  images = λ image now. first.images image (second.images image now);
  kept = λ image now. second.kept image (first.kept image now);
  time = record {
    later = omega (arith, first.time.later, second.time.later);
    nothing_else = λ time image le left.
        ⊎_elim (λ before. ⊎_elim (λ earlier. inl earlier) (λ now. inr (second.kept image now)) (first.time.nothing_else time image le before)) (λ now. inr now)
        (second.time.nothing_else time image (omega (arith, le, first.time.later)) left);
    keeps = λ time image le left. second.time.keeps time image (omega (arith, le, first.time.later)) (first.time.keeps time image le left);
  };
}

-- before the first call
pub started : (old : Moment) (P : List ℕ → Type 0) → ((image : List ℕ) → old.since old.time image → P image) → EachMoment old old P
started old P here = record { later = omega arith; each = here; before = λ time image le left. inl left }

-- one call more, after which a crash leaves what has P
pub goes_on : (old mid new : Moment) (P : List ℕ → Type 0) → EachMoment old mid P → GoesOn mid new → ((image : List ℕ) → new.images image → P image) → EachMoment old new P
goes_on old mid new P so_far time here = record {
  later = omega (arith, so_far.later, time.later);
  each = λ image left. ⊎_elim (so_far.each image) (here image) (time.nothing_else old.time image so_far.later left);
  before = λ t image le left. ⊎_elim (so_far.before t image le) (λ now. inr (here image now)) (time.nothing_else t image (omega (arith, le, so_far.later)) left);
}

-- one call more, after which a crash leaves nothing else
pub stays_on : (old mid new : Moment) (P : List ℕ → Type 0) → EachMoment old mid P → GoesOn mid new → ((image : List ℕ) → new.images image → mid.images image) → ((image : List ℕ) → mid.images image → mid.since old.time image) → EachMoment old new P
stays_on old mid new P so_far time fewer counts = goes_on old mid new P so_far time (λ image left. so_far.each image (counts image (fewer image left)))
