-- What a contract sees of a journal.
use Rattle.std.specs.Prelude.{ℕ, List}
use Rattle.plan_schema.specs.declared.change.Entry.{Entry}

-- its entries, the first one first, and how many more it has room for without more memory
pub record Held : Type 0 where
  pub entries : List Entry
  pub spare : ℕ
