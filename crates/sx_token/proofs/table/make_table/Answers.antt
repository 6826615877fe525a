use Rattle.std.proofs.Common.{length, sym, ap, ◌∙◌, arith, rules, ◌==◌}
use Rattle.std.proofs.lemmas.Map.Text.{hash_map_updates_str}
use Rattle.std.specs.HashSet.{contains_by}
use Rattle.sx_token.proofs.TableLemmas.{table_none, table_more, place_from_Contains, literal_at, kept_key}
use Rattle.sx_token.proofs.table.make_table.Goals as goal

pub loop-i-init : goal.loop-i-init
loop-i-init c = table_none _ _ _ _ (λ text. let h = c.new-places.ensures.empty in search rules)

pub loop-i-preserved : goal.loop-i-preserved
loop-i-preserved c =
    let same = c.as_bytes-bytes.ensures.value in
    let put = c.in-Ok.ensures.updates in
    table_more _ c.loop-i.i _ _ _ _ c.loop-i.longest c.note_length.new.longest c.as_str-text.result.now c.loop-i.invariant
    (literal_at c.args.literals.now c.loop-i.i c.index-literals-i.result c.as_str-text.result.now c.loop-i-test.true c.index-literals-i.is c.as_str-text.ensures)
    (hash_map_updates_str c.as_str-text.result.now c.loop-i.places c.insert-in-loop-i.new.self _ c.in-Ok-insert.ensures.updates)
    (λ q h. kept_key _ _ _ (put.0 q) h)
    (ap (λ t. contains_by (λ n. length t == n) c.insert.new.self) (sym same) ∙ put.1)
    c.note_length.ensures.grows
    (λ first others e small. omega (arith, c.note_length.ensures.covers first others (same ∙ e) small, ap length same))

pub returns-clause-table : goal.returns-clause-table
returns-clause-table c =
    let h = c.loop-i.invariant in
    record {
      found = h.found;
      none = λ text e has. let at = place_from_Contains c.args.literals.now text has in h.none text at.0 e (omega (arith, at.1)) at.2;
      sized = λ text has. let at = place_from_Contains c.args.literals.now text has in h.sized text at.0 (omega (arith, at.1)) at.2;
      longest = λ first others has small. let at = place_from_Contains c.args.literals.now _ has in h.longest first others at.0 (omega (arith, at.1)) at.2 small;
    }
