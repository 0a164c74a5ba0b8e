use Rattle.std.proofs.Common.{◌≡◌, ◌<◌, ℕ, List, [], Some, Ok, true, length}
use Rattle.csv.specs.Reading.{Reached, Ready, default_config, source_of, strip_bom}
use Rattle.csv.specs.declared.parser.State.TheVariants as st
use Rattle.csv.specs.declared.reader.Trim.TheVariants as trim
use Rattle.plan_schema.specs.Sound.{are_sound_rows}
use Rattle.plan_import.specs.BaseFile.{with_records}
use Rattle.plan_import.proofs.import_records.Given as goal

abbrev pub invariant-loop-row : goal.invariant-loop-row
invariant-loop-row l = record {
  plain : l.row-iterator.rdr.trim ≡ trim.None;
  ready : Ready l.row-iterator.rdr;
  turns : 0 < l.row-iterator.left;
  config : l.row-iterator.rdr.config ≡ default_config;
  left : (y : List ℕ) × (seen : List (List (List ℕ))) × (source_of (λ s. Some s.now) l.row-iterator.rdr ≡ Some y)
      × Reached default_config st.StartRecord (strip_bom l.fn.text) seen l.row-iterator.rdr.state y
      × (with_records 1 [] seen ≡ Ok l.contents) × (l.count ≡ length seen);
  sound : are_sound_rows l.contents ≡ true;
}
