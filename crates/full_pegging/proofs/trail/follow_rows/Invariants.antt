use Rattle.full_pegging.proofs.trail.follow_rows.Given as goal

abbrev pub ghost-follow_part : goal.ghost-follow_part
ghost-follow_part g a = g.spot
