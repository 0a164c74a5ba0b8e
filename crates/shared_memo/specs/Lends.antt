-- What a memo ends as, once the value that a look-up lent has been given back.
use Rattle.std.specs.Prelude.{◌≡◌, List, ⊤}
use Rattle.std.specs.Borrow.{Fml, RattleType, MutBor, follows_so}
use Rattle.std.specs.HashMap.Lent.{HashMembers}
use mathlib.Core.Option.{none}
use Rattle.shared_memo.specs.Pairs.{Memo as Pairs, memo}
use Rattle.shared_memo.specs.contracts.Memo.{the_row}

module _ (K V : RattleType) (key : HashMembers K.Denot) where
  -- the memo's type, as the logic holds it
  abbrev pub memo_row : RattleType
  memo_row = the_row K V (record {}) (record { eq = key.eq }) (record { hash_input = key.hash_input })

  -- the memo ends with these pairs, and with room for as many as before
  abbrev pub ends_as : MutBor (Pairs K.Denot V.Denot) → List (K.Denot × V.Denot) → Fml
  ends_as m pairs = follows_so memo_row memo_row m.ghost_name none (λ _ _. ⊤) (λ n. n ≡ memo pairs m.now.most)
