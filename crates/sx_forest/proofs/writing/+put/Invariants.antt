use Rattle.std.proofs.Common.{◌≡◌, ◌+◌, ◌*◌, ℕ, ◌++◌, List, [], ◌∷◌, length, drop}
use Rattle.sx_grammar.specs.Parts.{labels}
use Rattle.sx_grammar.specs.Reading.{reading_depth, readings_depth}
use Rattle.sx_forest.specs.Readings.{plain_reading, plain_readings}
use Rattle.sx_forest.specs.Text.{token_texts, kids_text, others_text, AreWithin}
use Rattle.sx_forest.proofs.writing.+put.Given as goal

abbrev pub decreases-put_reading : goal.decreases-put_reading
decreases-put_reading l = 2 * reading_depth (plain_reading l.reading.now)

abbrev pub decreases-put_kids : goal.decreases-put_kids
decreases-put_kids l = 2 * readings_depth (plain_readings l.kids.now) + 1

abbrev pub invariant-put_kids-loop-kid : goal.invariant-put_kids-loop-kid
invariant-put_kids-loop-kid l = record {
  so_far : l.into.items ++ (others_text (labels l.grammar.parts) (token_texts l.tokens) (plain_readings (drop l.kid-index l.others)) ++ 41 ∷ []) ≡ l.fn.into.items ++ kids_text (labels l.grammar.parts) (token_texts l.tokens) (plain_readings l.kids);
  within : AreWithin (length l.grammar.parts.productions) (length l.tokens) (plain_readings (drop l.kid-index l.others));
  appends : (more : List ℕ) × (l.into.items ≡ l.fn.into.items ++ more);
}
