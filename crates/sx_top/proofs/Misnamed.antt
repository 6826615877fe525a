-- Words that name no auditor stop at a word.
use Rattle.std.proofs.Common.{◌≡◌, ℕ, List, [], ◌∷◌, map}
use Rattle.std.specs.Prelude.{Option, Some, None, Result, Err, MatchOption}
use Rattle.sx_words.specs.Commands.{AuditWord}
use Rattle.sx_steps.specs.declared.stop.Stop.{Stop}
use Rattle.sx_steps.specs.Refusal.{bad_word}
use Rattle.sx_steps.proofs.Ones.{err_same}
use Rattle.sx_audit.specs.Meaning.{Meaning}
use Rattle.sx_auditing.specs.Naming.{Slot, unset, set_first, Sets, Names}

-- the stop is that of a word
abbrev IsOfWord : Stop → Type 0
IsOfWord stop = (place : ℕ) × (stop ≡ bad_word place)

word_by : (place : ℕ) (audits : List AuditWord) (stop : Stop) → ((slots : List Slot) →
    Sets audits slots (Err stop) → IsOfWord stop) → (o : Option (List Slot)) →
    MatchOption o (◌≡◌ {A = Result (List Slot) Stop} (Err stop) (Err (bad_word place)))
    (λ new. Sets audits new (Err stop)) → IsOfWord stop
word_by place audits stop later None h = (place, err_same stop (bad_word place) h)
word_by place audits stop later (Some new) h = later new h

sets_word : (audits : List AuditWord) (stop : Stop) (slots : List Slot) →
    Sets audits slots (Err stop) → IsOfWord stop
sets_word [] stop slots h = absurd cc
sets_word (a ∷ audits) stop slots h =
    word_by a.word audits stop (sets_word audits stop) (set_first a slots) h

pub misnamed : (handed : List Meaning) (audits : List AuditWord) (stop : Stop) →
    Names handed audits (Err stop) → (place : ℕ) × (stop ≡ bad_word place)
misnamed handed audits stop h = sets_word audits stop (map unset handed) h
