use Rattle.core_runs.proofs.solving.net.Given as goal

-- the ledger of the step's counter is the one that its blank names
abbrev pub ghosts-net_once : goal.ghosts-net_once
ghosts-net_once a = record { name = a.blank.name; parts = a.blank.parts }
