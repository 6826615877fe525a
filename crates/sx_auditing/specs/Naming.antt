-- Auditors that are named by words.
use Rattle.std.specs.Prelude.{◌≡◌, ℕ, Bool, true, false, if◌then◌else◌, List, [], ◌∷◌, map}
use Rattle.std.specs.Prelude.{Option, None, option_map, Result, Ok, Err, MatchOption}
use Rattle.std.specs.List.{flat_map}
use Rattle.std.specs.Str.{bytes_eq}
use Rattle.sx_words.specs.Commands.{AuditWord}
use Rattle.sx_steps.specs.declared.stop.Stop.{Stop}
use Rattle.sx_steps.specs.Refusal.{bad_word}
use Rattle.sx_audit.specs.Meaning.{Meaning}

-- an auditor that is handed in, and whether a word has set it
pub record Slot : Type 0 where
  pub auditor : Meaning
  pub is_set : Bool

-- the auditor, which no word has set
abbrev pub unset : Meaning → Slot
unset m = record { auditor = m; is_set = false }

-- the auditor in the state that the setting gives, where it takes the setting
abbrev pub set_to : List ℕ → Slot → Option Slot
set_to setting s = option_map
    (λ state. record { auditor = record { kind = s.auditor.kind; state = state }; is_set = true })
    (s.auditor.kind.takes setting)

-- The first auditor that has the word's kind as its name is set with the word's setting. None where
-- there is none, or where it does not take the setting.
abbrev pub set_first : AuditWord → List Slot → Option (List Slot)
set_first a [] = None
set_first a (s ∷ slots) = if bytes_eq s.auditor.kind.name a.kind
    then option_map (λ new. new ∷ slots) (set_to a.setting s)
    else option_map (λ rest. s ∷ rest) (set_first a slots)

-- each word in order sets an auditor, up to the first word that sets none
abbrev pub Sets : List AuditWord → List Slot → Result (List Slot) Stop → Type 0
Sets [] slots result = result ≡ Ok slots
Sets (a ∷ audits) slots result = MatchOption (set_first a slots)
    (result ≡ Err (bad_word a.word)) (λ new. Sets audits new result)

-- those that a word has set
abbrev pub set_ones : List Slot → List Meaning
set_ones slots = flat_map (λ s. if s.is_set then s.auditor ∷ [] else []) slots

-- the auditors that the words name, in the order in which they are handed in, and as the words set
-- them; or the stop of the first word that does not fit
abbrev pub Names : List Meaning → List AuditWord → Result (List Meaning) Stop → Type 0
Names handed audits (Ok kept) = (slots : List Slot) × Sets audits (map unset handed) (Ok slots)
    × (kept ≡ set_ones slots)
Names handed audits (Err stop) = Sets audits (map unset handed) (Err stop)
