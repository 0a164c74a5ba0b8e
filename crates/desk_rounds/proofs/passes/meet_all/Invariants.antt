use Rattle.desk_rounds.specs.PassLists.{SawMore, AreMet, HasSeen}
use Rattle.desk_rounds.proofs.passes.meet_all.Given as goal

abbrev pub invariant-meets : goal.invariant-meets
invariant-meets g l =
    record {
      main : SawMore l.office l.fn.pass l.pass;
      others : AreMet l.fn.pass l.fn.others l.others l.other-index;
      seen : HasSeen l.pass l.fn.others l.other-index;
    }
