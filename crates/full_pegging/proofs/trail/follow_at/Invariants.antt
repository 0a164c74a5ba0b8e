use Rattle.full_pegging.proofs.trail.follow_at.Given as goal

abbrev pub ghost-follow_rows : goal.ghost-follow_rows
ghost-follow_rows a = a.place
