use Rattle.std.proofs.Common.{◌≡◌, ◌+◌, ◌-◌, ◌≤◌, length, drop}
use Rattle.sx_words.specs.Commands.{nothing_said}
use Rattle.sx_words.specs.Reading.{after_verb}
use Rattle.sx_words.specs.View.{settings_view, HasKinds}
use Rattle.sx_words.proofs.reading.after_verb.Given as goal

abbrev pub invariant-loop-at : goal.invariant-loop-at
invariant-loop-at l =
    (l.at ≤ length l.words)
    × (after_verb l.verb (l.at + 2) (settings_view l.said) (drop l.at l.words) ≡ after_verb l.verb 2 nothing_said l.words)
    × HasKinds l.said

abbrev pub decreases-loop-at : goal.decreases-loop-at
decreases-loop-at l = length l.words - l.at
