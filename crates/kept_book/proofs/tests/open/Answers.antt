use Rattle.plan_journal.proofs.JournalLaws.{all_sound}
use Rattle.kept_book.proofs.tests.open.Goals as goal

pub behind-requires-clause-sound : goal.behind-requires-clause-sound
behind-requires-clause-sound c = all_sound c.in-Ok.found.journal.entries c.in-Ok.ensures.recovered.sound
