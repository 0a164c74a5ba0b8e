use Rattle.full_pegging.proofs.part.follow_part.Given as goal

abbrev pub ghost-follow_pieces : goal.ghost-follow_pieces
ghost-follow_pieces g a = g.most
