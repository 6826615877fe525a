use Rattle.std.proofs.Common.{◌≡◌, ℕ, ◌+◌, ◌^◌, ◌<◌, List, ◌++◌, length, map, take, drop}
use Rattle.sx_term.specs.Term.{tree}
use Rattle.sx_grammar.specs.Reading.{reading_depth}
use Rattle.sx_earley.specs.Tokens.{Stems, plain_tokens}
use Rattle.sx_forest.specs.Readings.{plain_reading, plain_readings}
use Rattle.sx_forest.specs.Names.{AreMarked, names_of_kids, AddsEach, AddsFront}
use Rattle.sx_forest.proofs.Terms.{term_by}
use Rattle.sx_forest.proofs.stripping.+strip_into.Given as goal

abbrev pub decreases-strip_into : goal.decreases-strip_into
decreases-strip_into l = reading_depth (plain_reading l.reading.now)

abbrev pub invariant-loop-kid : goal.invariant-loop-kid
invariant-loop-kid l = record {
  made : (stems : Stems) (later : List (List ℕ)) → map tree l.terms.items ≡ map (term_by (plain_tokens stems l.tokens) (l.vars ++ later)) (take l.kid-index l.kid-items);
  marked : AreMarked l.tokens (plain_readings (drop l.kid-index l.kid-items));
  room : length l.vars + length (names_of_kids l.tokens (plain_readings (drop l.kid-index l.kid-items))) < 2 ^ 32;
  each : (new : List (List ℕ)) → AddsEach l.vars (names_of_kids l.tokens (plain_readings (drop l.kid-index l.kid-items))) new → AddsEach l.fn.vars (names_of_kids l.tokens (plain_readings l.kid-items)) new;
  front : (new : List (List ℕ)) → AddsFront l.vars (names_of_kids l.tokens (plain_readings (drop l.kid-index l.kid-items))) new → AddsFront l.fn.vars (names_of_kids l.tokens (plain_readings l.kid-items)) new;
}
