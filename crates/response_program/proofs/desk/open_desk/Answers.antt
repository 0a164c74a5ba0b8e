use Rattle.std.proofs.Common.{refl, sym, subst, inl, inr}
use Rattle.response_program.specs.Names.{pair_of}
use Rattle.response_program.specs.Replayed.{IsOfPair}
use Rattle.response_program.proofs.Replays.{of_pair}
use Rattle.response_program.proofs.desk.open_desk.Goals as goal

pub returns-in-Err-clause-which : goal.returns-in-Err-clause-which
returns-in-Err-clause-which g c =
    let pair = pair_of c.args.pair.now in
    subst (IsOfPair pair) (sym c.of_open.ensures) (of_pair pair pair.input c.in-Err.fault (inl refl))

pub returns-in-Err-make_out-clause-which : goal.returns-in-Err-make_out-clause-which
returns-in-Err-make_out-clause-which g c =
    let pair = pair_of c.args.pair.now in
    subst (IsOfPair pair) (sym c.of_open-in-Err-make_out.ensures) (of_pair pair pair.output c.in-Err-make_out.fault (inr refl))
