-- The input that is made behind the base: a user branches, changes stocks and asks for plans, and carries the branch back.
use Rattle.std.specs.Prelude.{ℕ, zero, suc, ◌+◌, List, [], ◌∷◌, ◌++◌, codes, decimal}
use Rattle.row_text.specs.Spelling.{words_text}
use Rattle.command_words.specs.Replies.{ended}
use Rattle.plan_make.specs.Numbers.{after, draw}
use Rattle.plan_make.specs.Base.{part_name, behind_base}

-- a part and the quantity of its stock are drawn
unfoldable pub put_text : ℕ → ℕ → List ℕ
put_text parts state =
    words_text (codes "PUT" ∷ codes "X" ∷ codes "STOCK" ∷ part_name (1 + draw 1 parts state) ∷ decimal (draw 2 100 state) ∷ [])

-- a part is drawn whose plan is asked for
unfoldable pub plan_text : ℕ → ℕ → List ℕ
plan_text parts state = words_text (codes "PLAN" ∷ codes "X" ∷ part_name (1 + draw 1 parts state) ∷ [])

unfoldable pub turn_text : ℕ → ℕ → List ℕ
turn_text parts state = ended (put_text parts state) ++ ended (plan_text parts (after 2 state))

-- the state behind the first so many turns
unfoldable pub behind_turns : ℕ → ℕ → ℕ
behind_turns zero state = state
behind_turns (suc turns) state = after 3 (behind_turns turns state)

-- the first so many turns
unfoldable pub turns_text : ℕ → ℕ → ℕ → List ℕ
turns_text parts zero state = []
turns_text parts (suc turns) state = turns_text parts turns state ++ turn_text parts (behind_turns turns state)

abbrev pub opening : List ℕ
opening = ended (codes "HELLO ann") ++ ended (codes "BRANCH Baseline X")

abbrev pub closing : List ℕ
closing =
    ended (codes "UPDATE X") ++ ended (codes "SELECT X planned,late WHERE late > 0") ++ ended (codes "COMMIT X")
    ++ ended (codes "SELECT Baseline planned,late WHERE late > 0") ++ ended (codes "QUIT")

-- the requests over so many parts
unfoldable pub requests_text : ℕ → ℕ → List ℕ
requests_text parts state = opening ++ (turns_text parts 20 state ++ closing)

-- the input that goes with a base: its draws follow those of the base
abbrev pub input_text : ℕ → ℕ → List ℕ
input_text parts start = requests_text parts (behind_base parts start)
