use Rattle.std.proofs.Common.{◌∙◌, sym, ap}
use Rattle.session_rules.specs.Requests.{IsBad}
use Rattle.request_loop.proofs.KeptRows.{short_is}
use Rattle.request_loop.proofs.gathering.Gathering.cut_short.Goals as goal

pub returns : goal.returns
returns c r h = short_is r c.args.self h c.requires ∙ ap IsBad (sym c.unwrap_or.ensures)
