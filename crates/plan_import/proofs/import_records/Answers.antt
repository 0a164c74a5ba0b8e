use Rattle.std.proofs.Common.{Ok, Bor, List, ℕ, ◌≡◌, ◌≤◌, ◌+◌, ◌∙◌, sym, refl, inl, inr, Some, ◌∷◌, [], ◌++◌, arith, length, length-append, ap, append_assoc, None, subst}
use Rattle.csv.specs.Reading.{Reached, default_config, strip_bom}
use Rattle.csv.specs.Records.{fields_of}
use Rattle.csv.specs.declared.parser.State.TheVariants as st
use Rattle.csv.proofs.ReadFacts.{rows-end, rows-more}
use Rattle.plan_schema.specs.Sound.{are_sound_rows}
use Rattle.plan_import.specs.BaseFile.{with_records, with_numbered}
use Rattle.plan_import.specs.Told.{Tells, TellsFault}
use Rattle.plan_import.proofs.Records.{reached-all, reached-few, reached-part, strip_bom-le}
use Rattle.plan_import.proofs.Laid.{laid_more, tells_short}
use Rattle.plan_import.proofs.import_records.Goals as goal

pub loop-row-init : goal.loop-row-init
unfolding Reached with_records
loop-row-init c =
    let fr = c.from_reader-rdr.ensures in
    let e = c.flexible.ensures in
    let h = c.has_headers.ensures in
    let start = c.into_iter-row-iterator.ensures.into_iter_gives ∙ refl in
    let rdr = c.into_byte_records-row-items.ensures.rdr in
    rw (start, rdr) (record {
      plain = rw (e, h) at fr.trim ∙ c.new.ensures.trim;
      ready = inr (inr (rw (e, h) at fr.has_headers, fr.headers));
      turns = c.into_byte_records-row-items.ensures.left;
      config = rw (e, h) at fr.config ∙ c.new.ensures.config;
      left = (strip_bom c.args.text.now, [], fr.source, (sym fr.state, refl), ap Ok (sym c.new-contents.ensures), refl);
      sound = ap are_sound_rows c.new-contents.ensures;
    })

-- a text has no more records than bytes, and this one is short
pub overflow_add-count : goal.overflow_add-count
overflow_add-count c =
    let inv = c.loop-row.invariant in
    let few : length inv.left.1 ≤ length (strip_bom c.args.text.now) = reached-few (strip_bom c.args.text.now) inv.left.1 c.loop-row.row-iterator.rdr.state inv.left.0 inv.left.3 in
    let less : length (strip_bom c.args.text.now) ≤ length c.args.text.now = strip_bom-le c.args.text.now in
    let n = inv.left.5 in
    omega arith

pub loop-row-preserved : goal.loop-row-preserved
loop-row-preserved c =
    let inv = c.loop-row.invariant in
    let s = rw (c.in-Some.is, c.in-Ok.is) at ((c.next.ensures.steps inv.turns inv.plain).0 inv.ready) in
    let m = rows-more (λ (s : Bor (List ℕ)). Some s.now) c.loop-row.row-iterator.rdr c.next.new.self.rdr (fields_of c.in-Ok.row) default_config st.StartRecord (strip_bom c.args.text.now) inv.left.0 inv.left.1 inv.config inv.left.2 inv.left.3 s.0 in
    record {
      plain = s.0.3 ∙ inv.plain;
      ready = inl s.1;
      turns = s.2;
      config = s.0.2 ∙ inv.config;
      left = (
        m.0,
        inv.left.1 ++ (fields_of c.in-Ok.row ∷ []),
        m.1,
        m.2,
        laid_more inv.left.1 (fields_of c.in-Ok.row) c.loop-row.contents c.add_row.new.contents inv.left.4
            (subst (λ n. with_numbered (n + 1) c.loop-row.contents (fields_of c.in-Ok.row) ≡ Ok c.add_row.new.contents) inv.left.5 c.in_default-add_row.ensures.ok),
        omega (arith, length-append inv.left.1 (fields_of c.in-Ok.row ∷ []), inv.left.5),
      );
      sound = c.in_default-add_row.ensures.sound inv.sound;
    }

pub returns-in-Err-clause-told : goal.returns-in-Err-clause-told
returns-in-Err-clause-told c =
    let inv = c.loop-row.invariant in
    let s = rw (c.in-Some.is, c.in-Ok.is) at ((c.next.ensures.steps inv.turns inv.plain).0 inv.ready) in
    let m = rows-more (λ (s : Bor (List ℕ)). Some s.now) c.loop-row.row-iterator.rdr c.next.new.self.rdr (fields_of c.in-Ok.row) default_config st.StartRecord (strip_bom c.args.text.now) inv.left.0 inv.left.1 inv.config inv.left.2 inv.left.3 s.0 in
    let part = reached-part (strip_bom c.args.text.now) (inv.left.1 ++ (fields_of c.in-Ok.row ∷ [])) c.next.new.self.rdr.state m.0 m.2 in
    subst (λ all. TellsFault (with_records 1 [] all) c.in-Err.fault) (sym part.1)
    (tells_short inv.left.1 part.0 (fields_of c.in-Ok.row) c.loop-row.contents c.in-Err.fault inv.left.4
    (subst (λ n. TellsFault (with_numbered (n + 1) c.loop-row.contents (fields_of c.in-Ok.row)) c.in-Err.fault) inv.left.5 c.in-Err.ensures.err))

pub returns-clause-told : goal.returns-clause-told
returns-clause-told c =
    let inv = c.loop-row.invariant in
    let s = rw c.in-None.is at ((c.next.ensures.steps inv.turns inv.plain).0 inv.ready) in
    let all = reached-all (strip_bom c.args.text.now) inv.left.1 c.loop-row.row-iterator.rdr.state inv.left.0 inv.left.3
    (rows-end (λ (s : Bor (List ℕ)). Some s.now) c.loop-row.row-iterator.rdr c.next.new.self.rdr [] default_config inv.left.0 inv.config inv.left.2 s) in
    ap (with_records 1 []) all ∙ inv.left.4
