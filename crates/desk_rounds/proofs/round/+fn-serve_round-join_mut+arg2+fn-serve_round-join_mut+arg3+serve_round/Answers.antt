use Rattle.std.proofs.Common.{rules, ◌≡◌, ◌++◌}
use Rattle.desk_rounds.specs.Four.{EachFour}
use Rattle.desk_rounds.proofs.Fours.{EachFour-append}
use Rattle.desk_rounds.proofs.round.+fn-serve_round-join_mut+arg2+fn-serve_round-join_mut+arg3+serve_round.Goals as goal

pub returns : goal.returns
returns g t c =
    let d = c.split_at_mut-some_desks.result in
    let p = c.split_at_mut-some_passes.result in
    let one : EachFour (g.C.Serves.serves c.args.server.now) d.0.now p.0.now c.some_desks-1.given.0 c.some_passes-1.given.0 = search rules in
    let two : EachFour (g.C.Serves.serves c.args.server.now) d.1.now p.1.now c.more_desks-1.given.0 c.more_passes-1.given.0 = search rules in
    let desks : d.0.now ++ d.1.now ≡ c.args.desks.now = search rules in
    let passes : p.0.now ++ p.1.now ≡ c.args.passes.now = search rules in
    rw (← desks, ← passes) (EachFour-append (g.C.Serves.serves c.args.server.now) _ _ _ _ _ _ _ _ one two)
